-- Actions in a larger environment.
use Rattle.std.proofs.Common.{◌≡◌, ◌≢◌, ◌∙◌, inl, inr, sym, ap, subst, refl, ℕ, Bool, true, false, not, cond, ◌&&◌, List, [], ◌∷◌, ◌++◌, map, Option, Some, None, IsTrue, bytes_eq, is_some, nat_le, length}
use Rattle.std.specs.List.{AllByRecursion, list_all}
use Rattle.formula_core.specs.declared.ty.Ty.{Ty}
use Rattle.formula_core.specs.declared.raw.Action.{Action}
use Rattle.formula_core.specs.declared.raw.Action.TheVariants as action
use Rattle.formula_core.specs.declared.raw.RawAction.{RawAction}
use Rattle.formula_core.specs.declared.raw.RawAction.TheVariants as raw
use Rattle.formula_core.specs.declared.raw.Ref.{Ref}
use Rattle.formula_core.specs.Env.{type_in}
use Rattle.formula_core.specs.Laws.{IsWithin}
use Rattle.formula_core.specs.Names.{is_identifier, is_word, is_in_word, starts_word, is_reserved, prime}
use Rattle.formula_core.specs.Typed.{Stands, HasCarriers, IsTypedIn}
use Rattle.formula_core.specs.Wellness.{type_of}
use Rattle.formula_core.proofs.TypedIn.{typed_more, predicate_more}
use Rattle.type_formula.specs.Answers.{with_typed_name}
use Rattle.type_formula.proofs.Named.{all_each, later, found_has}
use Rattle.type_action.specs.Answers.{IsActionTyping}
use Rattle.type_action.specs.CoreActions.{primed, with_all, target_type, with_target, typed_targets, unknown_targets}
use Rattle.model_core.specs.declared.fault.Fault.{Fault}
use Rattle.model_core.specs.declared.component.RawStep.{RawStep}
use Rattle.check_rules.specs.Assignments.{written_targets}
use Rattle.check_rules.specs.Typed.{Entries, LabelledAction, AreTypedActions}
use Rattle.type_action.specs.Laws.{IsActionIn, TypedActionsStand}
use Rattle.checked_laws.specs.Sound.{HasIdentifiers, HasTargets, AreActionsIn}
use Rattle.checked_laws.proofs.Names.{here_or, some_or, absent, met, missed, same_name}
use Rattle.checked_laws.proofs.Parts.{never_empty, all_map, all_true}
use Rattle.checked_laws.proofs.Growing.{within_with, with_all_or}

-- A name with a prime is no identifier.

pub and_false : (a b : Bool) → b ≡ false → (a && b) ≡ false
and_false true b e = e
and_false false b e = refl

all_word : (cs : List ℕ) → list_all is_in_word (cs ++ prime ∷ []) ≡ false
all_word [] = refl
all_word (c ∷ cs) = and_false (is_in_word c) (list_all is_in_word (cs ++ prime ∷ [])) (all_word cs)

no_word : (a b c : Bool) → b ≡ false → (a && b && c) ≡ false
no_word true b c e = ap (λ x. x && c) e
no_word false b c e = refl

primed_word : (x : List ℕ) → is_word (primed x) ≡ false
primed_word [] = refl
primed_word (c ∷ cs) = no_word (starts_word c) (list_all is_in_word (cs ++ prime ∷ [])) (nat_le (length (cs ++ prime ∷ [])) 63) (all_word cs)

pub primed_name : (x : List ℕ) → is_identifier (primed x) ≡ false
primed_name x = ap (λ b. b && not (is_reserved (primed x))) (primed_word x)

-- Environments with primed names.

some_not : (o : Option Ty) → o ≡ None → is_some o ≡ false
some_not None e = refl
some_not (Some t) e = cc

added_name : (b : Bool) (env : Entries) (y : List ℕ) (u : Ty) (x : List ℕ) → b ≡ false → type_in env x ≡ None → bytes_eq x y ≡ true → type_in (cond b env (env ++ (y, u) ∷ [])) x ≡ Some u
added_name true env y u x f e h = cc
added_name false env y u x f e h = later env ((y, u) ∷ []) x e ∙ met (bytes_eq x y) u None h

other_name : (b : Bool) (env : Entries) (y : List ℕ) (u : Ty) (x : List ℕ) → type_in env x ≡ None → bytes_eq x y ≡ false → type_in (cond b env (env ++ (y, u) ∷ [])) x ≡ None
other_name true env y u x e h = e
other_name false env y u x e h = later env ((y, u) ∷ []) x e ∙ missed (bytes_eq x y) u None h

-- of the names that the environment lacks, the first counts
pub with_all_new : (env xs : Entries) (x : List ℕ) → type_in env x ≡ None → type_in (with_all env xs) x ≡ type_in xs x
with_all_new env [] x e = e
with_all_new env (y ∷ ys) x e = elim (here_or (bytes_eq x y.0)) [
  | inl b ↦ within_with (with_typed_name env y.0 (Some y.1)) ys (x, y.1)
      (added_name (is_some (type_in env y.0)) env y.0 y.1 x (some_not (type_in env y.0) (ap (type_in env) (sym (same_name x y.0 b)) ∙ e)) e b)
      ∙ sym (met (bytes_eq x y.0) y.1 (type_in ys x) b)
  | inr b ↦ with_all_new (with_typed_name env y.0 (Some y.1)) ys x (other_name (is_some (type_in env y.0)) env y.0 y.1 x e b)
      ∙ sym (missed (bytes_eq x y.0) y.1 (type_in ys x) b)
]

-- none of these names is an identifier
abbrev pub ArePrimed : Entries → Type 0
ArePrimed xs = AllByRecursion (λ x. is_identifier x.0 ≡ false) xs

identifier_new : (env : Entries) (x : List ℕ) (o : Option Ty) → type_in env x ≡ o → HasIdentifiers env → is_identifier x ≡ false → type_in env x ≡ None
identifier_new env x None e h k = e
identifier_new env x (Some t) e h k = let i : is_identifier x ≡ true = found_has (λ y. IsTrue (is_identifier y.0)) env x t h e in let no : true ≡ false = sym i ∙ k in cc

pub primed_within : (env target xs : Entries) → IsWithin env target → HasIdentifiers target → ArePrimed xs → IsWithin (with_all env xs) (with_all target xs)
primed_within env target xs w ids primes x e = elim (some_or (type_in env x.0)) [
  | inl h ↦ within_with target xs x (w x (h.1 ∙ sym (within_with env xs (x.0, h.0) h.1) ∙ e))
  | inr h ↦ elim (with_all_or (λ y. is_identifier y.0 ≡ false) env xs primes x e) [
    | inl k ↦ absent (type_in env x.0) x.1 h k
    | inr k ↦ with_all_new target xs x.0 (identifier_new target x.0 (type_in target x.0) refl ids k) ∙ sym (with_all_new env xs x.0 h) ∙ e
  ]
]

pub targets_primed : (xs : Entries) → ArePrimed (map (λ x. (primed x.0, x.1)) xs)
targets_primed xs = all_map (λ x. is_identifier x.0 ≡ false) (λ x. (primed x.0, x.1)) xs (all_true (λ x. is_identifier (primed x.0) ≡ false) xs (λ x. primed_name x.0))

-- Actions.

pub action_more : (env target : Entries) → IsWithin env target → HasIdentifiers target → (a : Action) → IsActionIn env a → IsActionIn target a
action_more env target w ids = elim [
  | action.Assign ps ↦ λ h. all_each (λ p. Stands env (p.0, type_of p.1) × IsTypedIn env p.1) (λ p. Stands target (p.0, type_of p.1) × IsTypedIn target p.1) ps
      (λ p k. (w (p.0, type_of p.1) k.0, typed_more env target w p.1 k.1)) h
  | action.ChooseIn x f ↦ λ h. (h.0, w (x, h.0) h.1, h.2, typed_more env target w f h.3)
  | action.ChooseSuch xs f ↦ λ h. (
    all_each (Stands env) (Stands target) xs w h.0,
    predicate_more (with_all env (map (λ x. (primed x.0, x.1)) xs)) (with_all target (map (λ x. (primed x.0, x.1)) xs))
        (primed_within env target (map (λ x. (primed x.0, x.1)) xs) w ids (targets_primed xs)) f h.1,
  )
]

-- Actions with targets.

typed_first : (x : List ℕ) (o : Option Ty) (xs : Entries) → is_some o ≡ true → with_target x o xs ≡ [] → ⊥
typed_first x None xs h e = cc
typed_first x (Some t) xs h e = cc

known_first : (b : Bool) (u : List ℕ × ℕ) (us : List (List ℕ × ℕ)) → cond b us (u ∷ us) ≡ [] → b ≡ true
known_first true u us e = refl
known_first false u us e = cc

some_typed : (env : Entries) (targets : List Ref) → unknown_targets env targets ≡ [] → (targets ≡ [] → ⊥) → typed_targets env targets ≡ [] → ⊥
some_typed env [] known some none = some refl
some_typed env (r ∷ rs) known some none =
    typed_first r.name (target_type env r.name) (typed_targets env rs)
    (known_first (is_some (target_type env r.name)) (r.name, r.place) (unknown_targets env rs) known) none

targets_typed : (env : Entries) (written : RawAction) (a : Action) → IsActionTyping env written a → (written_targets written ≡ [] → ⊥) → HasTargets a
targets_typed env (raw.Assign targets values) a h some = subst HasTargets (sym h.2) tt
targets_typed env (raw.Apply target x e) a h some = subst HasTargets (sym h.2) tt
targets_typed env (raw.ChooseIn target set) a h some = subst HasTargets (sym h.2) tt
targets_typed env (raw.ChooseSuch targets p) a h some = subst HasTargets (sym h.2) (some_typed env targets h.1.0 some)

pub actions_more : (env target : Entries) → IsWithin env target → HasIdentifiers target → (actions : List LabelledAction) → AreActionsIn env actions → AreActionsIn target actions
actions_more env target w ids actions h =
    all_each (λ a. IsActionIn env a.1 × HasTargets a.1) (λ a. IsActionIn target a.1 × HasTargets a.1) actions (λ a k. (action_more env target w ids a.1 k.0, k.1)) h

pub actions_typed : TypedActionsStand → (component : List ℕ) (env : Entries) (steps : List RawStep) (typed : List LabelledAction) (faults : List Fault) → HasCarriers env
    → AllByRecursion (λ s. written_targets s.action ≢ []) steps → AreTypedActions component env steps typed faults → faults ≡ [] → AreActionsIn env typed
actions_typed stand component env [] typed faults has some t none = subst (AreActionsIn env) (sym t.0) tt
actions_typed stand component env (s ∷ steps) typed faults has some (inl t) none =
    subst (AreActionsIn env) (sym t.5) ((stand env s.action t.0 t.3 has, targets_typed env s.action t.0 t.3.holds some.0), actions_typed stand component env steps t.1 faults has some.1 t.4 none)
actions_typed stand component env (s ∷ steps) typed faults has some (inr t) none = never_empty t.0 t.1 (sym none ∙ t.4)
