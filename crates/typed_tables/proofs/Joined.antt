-- A sound machine beside its sound abstraction: its formulas are typed in the environments of their places.
use Rattle.std.proofs.Common.{◌≡◌, ◌∙◌, ◌⊎◌, inl, inr, sym, ap, ap₂, subst, refl, ℕ, Bool, true, false, cond, List, [], ◌∷◌, ◌++◌, map, Option, Some, None, IfSome, bytes_eq, option_to_list}
use Rattle.std.specs.List.{AllByRecursion, IsDistinct, filter, filter_map, find, cons_option}
use Rattle.std.specs.Map.{keys_of}
use Rattle.formula_core.specs.declared.ty.Ty.{Ty}
use Rattle.formula_core.specs.declared.ty.Ty.TheVariants as ty
use Rattle.formula_core.specs.declared.ty.Ty.TheViews.{outs-Pow}
use Rattle.formula_core.specs.declared.formula.Formula.{Formula}
use Rattle.formula_core.specs.declared.raw.Action.{Action}
use Rattle.formula_core.specs.declared.raw.Action.TheVariants.{Assign, ChooseIn, ChooseSuch}
use Rattle.formula_core.specs.Env.{type_in}
use Rattle.formula_core.specs.Laws.{IsWithin}
use Rattle.formula_core.specs.Typed.{Stands, IsTypedIn, IsPredicateIn}
use Rattle.formula_core.specs.Types.{members_at, members}
use Rattle.formula_core.specs.Wellness.{type_of}
use Rattle.formula_core.proofs.TypedIn.{predicate_more}
use Rattle.type_formula.proofs.Named.{all_each, sooner, later}
use Rattle.type_action.specs.CoreActions.{primed, with_all}
use Rattle.type_action.specs.Laws.{IsActionIn}
use Rattle.model_core.specs.declared.checked.Checked.{Checked}
use Rattle.model_core.specs.declared.checked.Checked.TheVariants.{Context, Machine}
use Rattle.model_core.specs.declared.checked.CheckedEvent.{CheckedEvent}
use Rattle.model_core.specs.declared.checked.CheckedMachine.{CheckedMachine}
use Rattle.model_core.specs.Each.{for_each, is_among}
use Rattle.check_rules.specs.Assignments.{assigned, all_assigned}
use Rattle.check_rules.specs.Refinements.{chosen, all_chosen}
use Rattle.check_rules.specs.Typed.{Entries, LabelledAction}
use Rattle.check_rules.specs.Visible.{names}
use Rattle.checked_laws.specs.Sound.{HasTargets, AreActionsIn, IsSoundEvent, AssignsVariables, IsSoundMachine, IsSoundComponent}
use Rattle.checked_laws.specs.Refining.{IsEventIn, IsSoundRefinement, chosen_by_first, witness_names, IsSoundBeside}
use Rattle.checked_laws.proofs.Actions.{with_all_new}
use Rattle.checked_laws.proofs.Growing.{within_with}
use Rattle.checked_laws.proofs.Names.{some_or, or_cases, or_left, or_right, same_name, name_is, among_later, among_sooner}
use Rattle.checked_laws.proofs.Parts.{any_append}
use Rattle.po_rules.specs.Parts.{actions_of, actions_of_first, open_targets, as_term, new_values}
use Rattle.formula_core.specs.Names.{with_prime}
use Rattle.model_core.specs.Refined.{refined_by, params_left_out}
use Rattle.po_rules.specs.Sequents.{IsNewValueIn}
use Rattle.sequent_laws.specs.Sound.{IsTypedActionIn, lost_chosen, wants_witness, targets_of_all, AreAmong, params_env, IsWellTypedEvent, IsWellTypedComponent}

-- Actions.

-- an environment with those of the names that it lacks is one with all of them behind
with_all_within : (env xs : Entries) → IsWithin (with_all env xs) (env ++ xs)
with_all_within env xs x e = elim (some_or (type_in env x.0)) [
  | inl h ↦ sooner env xs x.0 h.0 h.1 ∙ sym (within_with env xs (x.0, h.0) h.1) ∙ e
  | inr h ↦ later env xs x.0 h ∙ sym (with_all_new env xs x.0 h) ∙ e
]

action_typed : (env : Entries) (a : Action) → IsActionIn env a × HasTargets a → IsTypedActionIn env a
action_typed env (Assign pairs) h =
    all_each (λ p. Stands env (p.0, type_of p.1) × IsTypedIn env p.1) (IsNewValueIn env) pairs (λ p k. (k.1, k.0)) h.0
action_typed env (ChooseIn x s) h = (h.0.3, (h.0.0, h.0.2, h.0.1))
action_typed env (ChooseSuch targets q) h =
    (h.1, h.0.0, predicate_more (with_all env (map with_prime targets)) (env ++ map with_prime targets) (with_all_within env (map with_prime targets)) q h.0.1)

actions_typed : (env : Entries) (actions : List LabelledAction) → AreActionsIn env actions → AllByRecursion (IsTypedActionIn env) (map (λ a. a.1) actions)
actions_typed env [] h = tt
actions_typed env (a ∷ actions) h = (action_typed env a.1 h.0, actions_typed env actions h.1)

-- What they assign.

member_of : (s : Formula) (t : Ty) → type_of s ≡ ty.Pow t → members (type_of s) ≡ Some t
member_of s t e = ap members e ∙ ap members_at (outs-Pow t)

keys_append : {X : Type 0} (xs ys : List (List ℕ × X)) → keys_of (xs ++ ys) ≡ keys_of xs ++ keys_of ys
keys_append [] ys = refl
keys_append (x ∷ xs) ys = ap (λ ks. x.0 ∷ ks) (keys_append xs ys)

values_keys : (ts : Entries) → keys_of (map (λ y. (y.0, as_term (with_prime y))) ts) ≡ names ts
values_keys [] = refl
values_keys (t ∷ ts) = ap (λ ks. t.0 ∷ ks) (values_keys ts)

new_keys : (env : Entries) (a : Action) → IsActionIn env a → keys_of (new_values a) ≡ assigned a
new_keys env (Assign pairs) h = refl
new_keys env (ChooseIn x s) h =
    ap (λ o. keys_of (map (λ y. (y.0, as_term (with_prime y))) (map (λ t. (x, t)) (option_to_list o)))) (member_of s h.0 h.2)
new_keys env (ChooseSuch targets q) h = values_keys targets

open_keys : (env : Entries) (a : Action) → IsActionIn env a → keys_of (open_targets a) ≡ chosen a
open_keys env (Assign pairs) h = refl
open_keys env (ChooseIn x s) h = ap (λ o. keys_of (map (λ t. (x, t)) (option_to_list o))) (member_of s h.0 h.2)
open_keys env (ChooseSuch targets q) h = refl

assigned_same : (env : Entries) (actions : List LabelledAction) → AreActionsIn env actions → all_assigned actions ≡ targets_of_all (map (λ a. a.1) actions)
assigned_same env [] h = refl
assigned_same env (a ∷ actions) h =
    ap₂ (λ ns ms. ns ++ ms) (sym (new_keys env a.1 h.0.0)) (assigned_same env actions h.1) ∙ sym (keys_append (new_values a.1) (for_each new_values (map (λ b. b.1) actions)))

chosen_same : (env : Entries) (actions : List LabelledAction) → AreActionsIn env actions → all_chosen (map (λ a. a.1) actions) ≡ keys_of (for_each open_targets (map (λ a. a.1) actions))
chosen_same env [] h = refl
chosen_same env (a ∷ actions) h =
    ap₂ (λ ns ms. ns ++ ms) (sym (open_keys env a.1 h.0.0)) (chosen_same env actions h.1) ∙ sym (keys_append (open_targets a.1) (for_each open_targets (map (λ b. b.1) actions)))

-- Names among names.

among_cond : (b : Bool) (x : List ℕ) (ns : List (List ℕ)) (n : List ℕ) → is_among (cond b (x ∷ ns) ns) n ≡ true → ((b ≡ true) × (bytes_eq n x ≡ true)) ⊎ (is_among ns n ≡ true)
among_cond true x ns n e = elim (or_cases (bytes_eq n x) (is_among ns n) e) [
  | inl h ↦ inl (refl, h)
  | inr h ↦ inr h
]
among_cond false x ns n e = inr e

among_filter : (p : List ℕ → Bool) (ns : List (List ℕ)) (n : List ℕ) → is_among (filter p ns) n ≡ true → (p n ≡ true) × (is_among ns n ≡ true)
among_filter p [] n e = let no : ⊥ = cc in absurd no
among_filter p (x ∷ ns) n e = elim (among_cond (p x) x (filter p ns) n e) [
  | inl h ↦ (ap p (same_name n x h.1) ∙ h.0, or_left (bytes_eq n x) (is_among ns n) h.1)
  | inr h ↦ let k = among_filter p ns n h in (k.0, or_right (bytes_eq n x) (is_among ns n) k.1)
]

among_primed : (ns : List (List ℕ)) (n : List ℕ) → is_among (map primed ns) n ≡ true → (x : List ℕ) × (n ≡ primed x) × (is_among ns x ≡ true)
among_primed [] n e = let no : ⊥ = cc in absurd no
among_primed (x ∷ ns) n e = elim (or_cases (bytes_eq n (primed x)) (is_among (map primed ns) n) e) [
  | inl h ↦ (x, same_name n (primed x) h, or_left (bytes_eq x x) (is_among ns x) (name_is x))
  | inr h ↦ let k = among_primed ns n h in (k.0, k.1, or_right (bytes_eq k.0 x) (is_among ns k.0) k.2)
]

-- a name of a list that passes the test stands with a prime among those that do
primed_kept : (p : List ℕ → Bool) (xs : Entries) (n : List ℕ) → p n ≡ true → is_among (keys_of xs) n ≡ true → is_among (keys_of (map with_prime (filter (λ x. p x.0) xs))) (primed n) ≡ true
primed_kept p [] n k e = let no : ⊥ = cc in absurd no
primed_kept p (x ∷ xs) n k e = elim (or_cases (bytes_eq n x.0) (is_among (keys_of xs) n) e) [
  | inl h ↦ here (p x.0) (ap p (sym (same_name n x.0 h)) ∙ k) h
  | inr h ↦ later_kept (p x.0) (primed_kept p xs n k h)
]
  where
    rest : Entries
    rest = filter (λ y. p y.0) xs

    here : (b : Bool) → b ≡ true → bytes_eq n x.0 ≡ true → is_among (keys_of (map with_prime (cond b (x ∷ rest) rest))) (primed n) ≡ true
    here true is h = or_left (bytes_eq (primed n) (primed x.0)) (is_among (keys_of (map with_prime rest)) (primed n))
        (subst (λ y. bytes_eq (primed n) (primed y) ≡ true) (same_name n x.0 h) (name_is (primed n)))
    here false is h = cc

    later_kept : (b : Bool) → is_among (keys_of (map with_prime rest)) (primed n) ≡ true → is_among (keys_of (map with_prime (cond b (x ∷ rest) rest))) (primed n) ≡ true
    later_kept true h = or_right (bytes_eq (primed n) (primed x.0)) (is_among (keys_of (map with_prime rest)) (primed n)) h
    later_kept false h = h

-- Events.

-- of the events that an event refines, the first
first_actions : (env : Entries) (refined : List CheckedEvent) → AllByRecursion (IsEventIn env) refined → AllByRecursion (IsTypedActionIn env) (actions_of_first refined)
first_actions env [] h = tt
first_actions env (r ∷ refined) h = actions_typed env r.actions h.0.actions

chosen_first : (env : Entries) (refined : List CheckedEvent) → AllByRecursion (IsEventIn env) refined → chosen_by_first refined ≡ keys_of (for_each open_targets (actions_of_first refined))
chosen_first env [] h = refl
chosen_first env (r ∷ refined) h = chosen_same env r.actions h.0.actions

first_assigned : (P : List (List ℕ) → Type 0) (variables : List (List ℕ)) (env : Entries) (refined : List CheckedEvent) → AllByRecursion (IsEventIn env) refined
    → AllByRecursion (AssignsVariables variables) refined → P [] → ((e : CheckedEvent) → AssignsVariables variables e → P (all_assigned e.actions)) → P (targets_of_all (actions_of_first refined))
first_assigned P variables env [] h k none some = none
first_assigned P variables env (r ∷ refined) h k none some = subst P (assigned_same env r.actions h.0.actions) (some r k.0)

-- what holds of all events of the abstraction holds of those that are refined
found_each : (P : CheckedEvent → Type 0) (test : CheckedEvent → Bool) (events : List CheckedEvent) → AllByRecursion P events → IfSome (find test events) P
found_each P test [] h = tt
found_each P test (e ∷ events) h = go (test e) (found_each P test events h.1)
  where
    go : (b : Bool) → IfSome (find test events) P → IfSome (cond b (Some e) (find test events)) P
    go true more = h.0
    go false more = more

cons_each : (P : CheckedEvent → Type 0) (o : Option CheckedEvent) (es : List CheckedEvent) → IfSome o P → AllByRecursion P es → AllByRecursion P (cons_option o es)
cons_each P None es h k = k
cons_each P (Some e) es h k = (h, k)

named_each : (P : CheckedEvent → Type 0) (events : List CheckedEvent) → AllByRecursion P events → (ns : List (List ℕ)) → AllByRecursion P (filter_map (λ name. find (λ x. bytes_eq name x.name) events) ns)
named_each P events h [] = tt
named_each P events h (n ∷ ns) =
    cons_each P (find (λ x. bytes_eq n x.name) events) (filter_map (λ name. find (λ x. bytes_eq name x.name) events) ns) (found_each P (λ x. bytes_eq n x.name) events h) (named_each P events h ns)

refined_each : (P : CheckedEvent → Type 0) (abstraction : Option CheckedMachine) (e : CheckedEvent) → IfSome abstraction (λ a. AllByRecursion P a.events) → AllByRecursion P (refined_by abstraction e)
refined_each P None e h = tt
refined_each P (Some a) e h = named_each P a.events h e.refines

distinct_none : IsDistinct bytes_eq []
unfolding IsDistinct
distinct_none = tt

module _ (m : CheckedMachine) (above : List (List ℕ)) (kept : AllByRecursion (λ n. is_among (m.variables ++ m.lost) n ≡ true) above)
    (e : CheckedEvent) (refined : List CheckedEvent) (constants : Entries) (sound : IsSoundEvent constants m.env e) (assigns : AssignsVariables m.variables e)
    (beside : IsSoundRefinement m.env (m.variables ++ m.lost) m.lost refined e) (refined_assign : AllByRecursion (AssignsVariables above) refined) where
  abbrev params : Entries
  params = params_env m e refined

  own_same : all_assigned e.actions ≡ targets_of_all (actions_of e)
  own_same = assigned_same (m.env ++ e.params) e.actions sound.actions

  still_variable : (n : List ℕ) → is_among above n ≡ true → is_among (m.variables ++ m.lost) n ≡ true
  still_variable n h = found above kept h
    where
      found : (ns : List (List ℕ)) → AllByRecursion (λ x. is_among (m.variables ++ m.lost) x ≡ true) ns → is_among ns n ≡ true → is_among (m.variables ++ m.lost) n ≡ true
      found [] k i = let no : ⊥ = cc in absurd no
      found (x ∷ ns) k i = elim (or_cases (bytes_eq n x) (is_among ns n) i) [
        | inl is ↦ ap (is_among (m.variables ++ m.lost)) (same_name n x is) ∙ k.0
        | inr is ↦ found ns k.1 is
      ]

  -- a name that wants a witness by the names wants one by the entries
  wanted : (n : List ℕ) → is_among (witness_names m.lost refined e) n ≡ true → is_among (keys_of (wants_witness m e refined)) n ≡ true
  wanted n h =
      let opens = for_each open_targets (actions_of_first refined) in
      let left = params_left_out e refined in
      let primes = map with_prime (lost_chosen m refined) in
      subst (λ ks. is_among ks n ≡ true) (sym (keys_append left primes))
      (elim (any_append (bytes_eq n) (keys_of left) (map primed (filter (is_among (chosen_by_first refined)) m.lost)) h) [
        | inl k ↦ among_sooner (keys_of left) (keys_of primes) n k
        | inr k ↦
            let x = among_primed (filter (is_among (chosen_by_first refined)) m.lost) n k in
            let both = among_filter (is_among (chosen_by_first refined)) m.lost x.0 x.2 in
            let here = subst (λ ns. is_among ns x.0 ≡ true) (chosen_first params refined beside.abstract) both.0 in
            among_later (keys_of left) (keys_of primes) n
            (subst (λ q. is_among (keys_of primes) q ≡ true) (sym x.1) (primed_kept (is_among m.lost) opens x.0 both.1 here))
      ])

  witnesses_wanted : (ws : List (List ℕ × Formula)) → AllByRecursion (λ w. is_among (witness_names m.lost refined e) w.0 ≡ true) ws → AreAmong (keys_of ws) (keys_of (wants_witness m e refined))
  witnesses_wanted [] h = tt
  witnesses_wanted (w ∷ ws) h = (wanted w.0 h.0, witnesses_wanted ws h.1)

  event_typed : IsWellTypedEvent m refined e
  event_typed = record {
    primed = beside.good;
    guards = sound.guards;
    actions = actions_typed (m.env ++ e.params) e.actions sound.actions;
    targets = subst (λ ns. AreAmong ns m.variables) own_same assigns.targets;
    once = subst (IsDistinct bytes_eq) own_same assigns.once;
    witnesses = beside.witnesses;
    witness_names = witnesses_wanted e.witnesses beside.wanted;
    refined_guards = all_each (IsEventIn params) (λ r. AllByRecursion (λ l. IsPredicateIn params l.formula) r.guards) refined (λ r h. h.guards) beside.abstract;
    refined_actions = first_actions params refined beside.abstract;
    refined_targets = first_assigned (λ ns. AreAmong ns (m.variables ++ m.lost)) above params refined beside.abstract refined_assign tt
        (λ r h. all_each (λ n. is_among above n ≡ true) (λ n. is_among (m.variables ++ m.lost) n ≡ true) (all_assigned r.actions) still_variable h.targets);
    refined_once = first_assigned (IsDistinct bytes_eq) above params refined beside.abstract refined_assign distinct_none (λ r h. h.once);
  }

-- Machines.

abbrev above_of : Option CheckedMachine → List (List ℕ)
above_of None = []
above_of (Some a) = a.variables

kept_above : (m : CheckedMachine) (abstraction : Option CheckedMachine) → IsSoundBeside abstraction (Machine m) → AllByRecursion (λ n. is_among (m.variables ++ m.lost) n ≡ true) (above_of abstraction)
kept_above m None h = tt
kept_above m (Some a) h = h.0.variables

assigns_above : (abstraction : Option CheckedMachine) → IfSome abstraction IsSoundMachine → IfSome abstraction (λ a. AllByRecursion (AssignsVariables (above_of abstraction)) a.events)
assigns_above None h = tt
assigns_above (Some a) h = h.assigns

module _ (m : CheckedMachine) (abstraction : Option CheckedMachine) (over : IfSome abstraction IsSoundMachine) (constants : Entries) (beside : IsSoundBeside abstraction (Machine m)) where
  events_typed : (events : List CheckedEvent) → AllByRecursion (IsSoundEvent constants m.env) events → AllByRecursion (AssignsVariables m.variables) events
      → AllByRecursion (λ e. IsSoundRefinement m.env (m.variables ++ m.lost) m.lost (refined_by abstraction e) e) events → AllByRecursion (λ e. IsWellTypedEvent m (refined_by abstraction e) e) events
  events_typed [] h k l = tt
  events_typed (e ∷ events) h k l = (
    event_typed m (above_of abstraction) (kept_above m abstraction beside) e (refined_by abstraction e) constants h.0 k.0 l.0
        (refined_each (AssignsVariables (above_of abstraction)) abstraction e (assigns_above abstraction over)),
    events_typed events h.1 k.1 l.1,
  )

pub sound_is_typed : (checked : Checked) (abstraction : Option CheckedMachine) → IsSoundComponent checked → IfSome abstraction IsSoundMachine → IsSoundBeside abstraction checked → IsWellTypedComponent checked abstraction
sound_is_typed (Context c) abstraction h over beside = record { env = h.env; axioms = h.axioms }
sound_is_typed (Machine m) abstraction h over beside = record {
  env = h.env;
  axioms = h.axioms;
  invariants = h.invariants;
  variant = h.variant;
  variables = h.variables;
  once = h.once;
  events = events_typed m abstraction over _ beside m.events h.events h.assigns beside.1;
}
