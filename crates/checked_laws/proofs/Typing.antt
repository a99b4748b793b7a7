-- Formulas that are typed in order are typed in the last environment.
use Rattle.std.proofs.Common.{◌≡◌, ◌∙◌, ◌⊎◌, inl, inr, sym, ap, subst, refl, ℕ, Bool, true, false, cond, ◌||◌, List, [], ◌∷◌, ◌++◌, Option, Some, None, bytes_eq, is_some}
use Rattle.std.specs.List.{AllByRecursion, cons_option}
use Rattle.std.specs.Option.{option_map}
use Rattle.std.specs.Map.{keys_of}
use Rattle.formula_core.specs.declared.raw.Raw.{Raw}
use Rattle.formula_core.specs.declared.ty.Ty.{Ty}
use Rattle.formula_core.specs.declared.ty.Ty.TheVariants as ty
use Rattle.formula_core.specs.declared.formula.Formula.{Formula}
use Rattle.formula_core.specs.Env.{type_in}
use Rattle.formula_core.specs.Formulas.{free_of, occurrences}
use Rattle.formula_core.specs.Identifiers.{carriers}
use Rattle.formula_core.specs.Laws.{IsWithin}
use Rattle.formula_core.specs.Typed.{Stands, HasCarriers, IsPredicateIn}
use Rattle.formula_core.proofs.Equations.{carriers-Given, carriers-Pow, carriers-Pair}
use Rattle.formula_core.proofs.Keeping.{carriers-Int, carriers-Bool, carriers-Truth}
use Rattle.formula_core.proofs.TypedIn.{predicate_more}
use Rattle.formula_core.proofs.Types.{type_induction}
use Rattle.type_formula.specs.Answers.{with_typed_name, with_names_typed, IsTheTyping}
use Rattle.type_formula.specs.CoreForms.{core_form}
use Rattle.type_formula.specs.Laws.{HasValues, IsStanding}
use Rattle.type_formula.proofs.Named.{all_append, all_front, all_back, all_each, sooner, later, within_extended, extended_has, found_has}
use Rattle.type_formula.proofs.Retyped.{retyped, typing_retyped, occurrences_over}
use Rattle.type_formula.proofs.Settled.{IsOver, over-Truth}
use Rattle.type_formula.proofs.Standing.{predicates_stand}
use Rattle.model_core.specs.declared.fault.Fault.{Fault}
use Rattle.model_core.specs.declared.component.RawLabelled.{RawLabelled}
use Rattle.model_core.specs.declared.checked.Labelled.{Labelled}
use Rattle.model_core.specs.Each.{is_among}
use Rattle.check_rules.specs.Typed.{Entries, AreTyped, in_order}
use Rattle.checked_laws.specs.Sound.{ArePredicatesIn, IsNamedIn}
use Rattle.checked_laws.proofs.Names.{AllStand, AreNew, here_or, met, missed, same_name, or_left, or_right, found_in}

-- The carrier sets of names that a predicate adds stood there before.

typing_over : (env : Entries) (wanted : List (List ℕ)) (raw : Raw) (f : Formula) (next : Entries) → HasCarriers env → IsTheTyping env wanted raw f next → AllByRecursion (λ x. IsOver env x.1) next
typing_over env wanted raw f next has h =
    let again = typing_retyped env wanted (core_form raw) (Some ty.Truth) f has (over-Truth env) h.typing.0 in
    let same : retyped env f ≡ f = (h.only (retyped env f) (with_names_typed env wanted (retyped env f)) (again, refl)).0 in
    let free : AllByRecursion (λ x. IsOver env x.1) (occurrences f) = subst (λ g. AllByRecursion (λ x. IsOver env x.1) (occurrences g)) same (occurrences_over env f) in
    subst (AllByRecursion (λ x. IsOver env x.1)) (sym h.typing.1) (extended_has (λ x. IsOver env x.1) env wanted f free has)

-- each carrier set of the larger environment stands in the first one
abbrev pub AddsNoSets : Entries → Entries → Type 0
AddsNoSets env larger = (set : List ℕ) → Stands larger (set, ty.Pow (ty.Given set)) → Stands env (set, ty.Pow (ty.Given set))

set_carriers : (set : List ℕ) → carriers (ty.Pow (ty.Given set)) ≡ (set, ty.Pow (ty.Given set)) ∷ []
set_carriers set = carriers-Pow (ty.Given set) ∙ carriers-Given set

pub set_over : (env : Entries) (set : List ℕ) → Stands env (set, ty.Pow (ty.Given set)) → IsOver env (ty.Pow (ty.Given set))
set_over env set h = subst (AllStand env) (sym (set_carriers set)) (h, tt)

pub over_set : (env : Entries) (set : List ℕ) → IsOver env (ty.Pow (ty.Given set)) → Stands env (set, ty.Pow (ty.Given set))
over_set env set h = (subst (AllStand env) (set_carriers set) h).0

typing_adds_no_sets : (env : Entries) (wanted : List (List ℕ)) (raw : Raw) (f : Formula) (next : Entries) → HasCarriers env → IsTheTyping env wanted raw f next → AddsNoSets env next
typing_adds_no_sets env wanted raw f next has h set e =
    over_set env set (found_has (λ x. IsOver env x.1) next set (ty.Pow (ty.Given set)) (typing_over env wanted raw f next has h) e)

pub predicates_within : (env larger : Entries) (ls : List Labelled) → IsWithin env larger → ArePredicatesIn env ls → ArePredicatesIn larger ls
predicates_within env larger ls w h = all_each (λ l. IsPredicateIn env l.formula) (λ l. IsPredicateIn larger l.formula) ls (λ l k. predicate_more env larger w l.formula k) h

pub record Stood (env last : Entries) (labelled : List Labelled) : Type 0 where
  pub within : IsWithin env last
  pub carriers : HasCarriers last
  pub sets : AddsNoSets env last
  pub values : HasValues env → HasValues last
  pub typed : ArePredicatesIn last labelled

-- The typed formulas are predicates in the last environment.
pub typed_stand : (component : List ℕ) (env : Entries) (wanted : List (List ℕ)) (labelled : List RawLabelled) (typed : List Labelled) (faults : List Fault) (last : Entries) →
    HasCarriers env → AreTyped component env wanted labelled typed faults last → Stood env last typed
typed_stand component env wanted [] typed faults last has a = record {
  within = λ x e. ap (λ n. type_in n x.0) a.2 ∙ e;
  carriers = subst HasCarriers (sym a.2) has;
  sets = λ set e. ap (λ n. type_in n set) (sym a.2) ∙ e;
  values = λ v. subst HasValues (sym a.2) v;
  typed = subst (ArePredicatesIn last) (sym a.0) tt;
}
typed_stand component env wanted (l ∷ labelled) typed faults last has (inl a) =
    let f = a.0 in
    let next = a.1 in
    let one : IsStanding env next f = predicates_stand env wanted l.formula f next a.3.1 has in
    let more : Stood next last a.2 = typed_stand component next wanted labelled a.2 faults last one.carriers a.4 in
    record {
      within = λ x e. more.within x (ap (λ n. type_in n x.0) a.3.1.typing.1 ∙ within_extended env wanted f x.0 x.1 e);
      carriers = more.carriers;
      sets = λ set e. typing_adds_no_sets env wanted l.formula f next has a.3.1 set (more.sets set e);
      values = λ v. more.values (one.values v);
      typed = subst (ArePredicatesIn last) (sym a.5) (predicate_more next last more.within f one.typed, more.typed);
    }
typed_stand component env wanted (l ∷ labelled) typed faults last has (inr b) = typed_stand component env wanted labelled typed b.1 last has b.3

-- Names of the last environment.

cond_test : (b : Bool) (t u : Ty) → cond b (Some u) None ≡ Some t → b ≡ true
cond_test true t u e = refl
cond_test false t u e = cc

name_cond : (b : Bool) (env : Entries) (w : List ℕ) (u : Ty) (x : List ℕ) (t : Ty) → type_in (cond b env (env ++ (w, u) ∷ [])) x ≡ Some t → (type_in env x ≡ Some t) ⊎ (bytes_eq x w ≡ true)
name_cond true env w u x t e = inl e
name_cond false env w u x t e = elim (found_in env ((w, u) ∷ []) x t e) [ inl h ↦ inl h | inr h ↦ inr (cond_test (bytes_eq x w) t u h) ]

name_from : (env : Entries) (w : List ℕ) (o : Option Ty) (x : List ℕ) (t : Ty) → type_in (with_typed_name env w o) x ≡ Some t → (type_in env x ≡ Some t) ⊎ (bytes_eq x w ≡ true)
name_from env w None x t e = inl e
name_from env w (Some u) x t e = name_cond (is_some (type_in env w)) env w u x t e

extended_from : (env : Entries) (wanted : List (List ℕ)) (f : Formula) (x : List ℕ) (t : Ty) → type_in (with_names_typed env wanted f) x ≡ Some t → (type_in env x ≡ Some t) ⊎ (is_among wanted x ≡ true)
extended_from env [] f x t e = inl e
extended_from env (w ∷ ws) f x t e = elim (extended_from (with_typed_name env w (type_in (free_of f) w)) ws f x t e) [
  | inl h ↦ elim (name_from env w (type_in (free_of f) w) x t h) [ inl k ↦ inl k | inr k ↦ inr (or_left (bytes_eq x w) (is_among ws x) k) ]
  | inr h ↦ inr (or_right (bytes_eq x w) (is_among ws x) h)
]

-- a name of the last environment is one of the first, or is wanted
pub last_from : (component : List ℕ) (env : Entries) (wanted : List (List ℕ)) (labelled : List RawLabelled) (typed : List Labelled) (faults : List Fault) (last : Entries) (x : List ℕ) (t : Ty) →
    AreTyped component env wanted labelled typed faults last → type_in last x ≡ Some t → (type_in env x ≡ Some t) ⊎ (is_among wanted x ≡ true)
last_from component env wanted [] typed faults last x t a e = inl (ap (λ n. type_in n x) (sym a.2) ∙ e)
last_from component env wanted (l ∷ labelled) typed faults last x t (inl a) e = elim (last_from component a.1 wanted labelled a.2 faults last x t a.4 e) [
  | inl h ↦ extended_from env wanted a.0 x t (ap (λ n. type_in n x) (sym a.3.1.typing.1) ∙ h)
  | inr h ↦ inr h
]
last_from component env wanted (l ∷ labelled) typed faults last x t (inr b) e = last_from component env wanted labelled typed b.1 last x t b.3 e

-- Declared names with their types.

later_among : (a b : Bool) → a ≡ false → (a || b) ≡ true → b ≡ true
later_among true b f e = cc
later_among false b f e = e

entry_first : (n x : List ℕ) (o : Option Ty) (t : Ty) (rest : Entries) → bytes_eq x n ≡ true → o ≡ Some t → type_in (cons_option (option_map (λ u. (n, u)) o) rest) x ≡ Some t
entry_first n x None t rest b e = cc
entry_first n x (Some u) t rest b e = met (bytes_eq x n) u (type_in rest x) b ∙ e

entry_passed : (n x : List ℕ) (o : Option Ty) (t : Ty) (rest : Entries) → bytes_eq x n ≡ false → type_in rest x ≡ Some t → type_in (cons_option (option_map (λ u. (n, u)) o) rest) x ≡ Some t
entry_passed n x None t rest b e = e
entry_passed n x (Some u) t rest b e = missed (bytes_eq x n) u (type_in rest x) b ∙ e

-- a declared name has its type
pub in_order_has : (last : Entries) (declared : List (List ℕ)) (x : List ℕ) (t : Ty) → type_in last x ≡ Some t → is_among declared x ≡ true → type_in (in_order last declared) x ≡ Some t
in_order_has last [] x t e h = cc
in_order_has last (n ∷ ns) x t e h = elim (here_or (bytes_eq x n)) [
  | inl b ↦ entry_first n x (type_in last n) t (in_order last ns) b (ap (type_in last) (sym (same_name x n b)) ∙ e)
  | inr b ↦ entry_passed n x (type_in last n) t (in_order last ns) b (in_order_has last ns x t e (later_among (bytes_eq x n) (is_among ns x) b h))
]

entry_stands : (last : Entries) (n : List ℕ) (o : Option Ty) (rest : Entries) → type_in last n ≡ o → AllStand last rest → AllStand last (cons_option (option_map (λ u. (n, u)) o) rest)
entry_stands last n None rest e h = h
entry_stands last n (Some t) rest e h = (e, h)

pub in_order_stand : (last : Entries) (declared : List (List ℕ)) → AllStand last (in_order last declared)
in_order_stand last [] = tt
in_order_stand last (n ∷ ns) = entry_stands last n (type_in last n) (in_order last ns) refl (in_order_stand last ns)

entry_key : (n : List ℕ) (o : Option Ty) (t : Ty) (rest : Entries) (ns : List (List ℕ)) → o ≡ Some t → keys_of rest ≡ ns → keys_of (cons_option (option_map (λ u. (n, u)) o) rest) ≡ n ∷ ns
entry_key n None t rest ns e h = cc
entry_key n (Some u) t rest ns e h = ap (λ ks. n ∷ ks) h

pub in_order_keys : (last : Entries) (declared : List (List ℕ)) → AllByRecursion (IsNamedIn last) declared → keys_of (in_order last declared) ≡ declared
in_order_keys last [] h = refl
in_order_keys last (n ∷ ns) h = entry_key n (type_in last n) h.0.0 (in_order last ns) ns h.0.1 (in_order_keys last ns h.1)

pub among_new : (env : Entries) (ns : List (List ℕ)) (n : List ℕ) → AreNew env ns → is_among ns n ≡ true → type_in env n ≡ None
among_new env [] n h e = cc
among_new env (m ∷ ns) n h e = elim (here_or (bytes_eq n m)) [
  | inl b ↦ ap (type_in env) (same_name n m b) ∙ h.0
  | inr b ↦ among_new env ns n h.1 (later_among (bytes_eq n m) (is_among ns n) b e)
]

-- What was typed stands in the old names and the declared ones, where each of its names is one of these.
pub reaches : (old last : Entries) (declared : List (List ℕ)) → AreNew old declared →
    ((x : List ℕ × Ty) → Stands last x → Stands old x ⊎ (is_among declared x.0 ≡ true)) → IsWithin last (old ++ in_order last declared)
reaches old last declared new from x e = elim (from x e) [
  | inl k ↦ sooner old (in_order last declared) x.0 x.1 k
  | inr k ↦ later old (in_order last declared) x.0 (among_new old declared x.0 new k) ∙ in_order_has last declared x.0 x.1 e k
]

-- The carrier sets of a type stand where each carrier set that stands in the one environment stands in the other.
pub carriers_kept : (env larger : Entries) → AddsNoSets larger env → (t : Ty) → IsOver env t → IsOver larger t
carriers_kept env larger sets = type_induction (λ t. IsOver env t → IsOver larger t)
    (λ h. subst (AllStand larger) (sym carriers-Int) tt)
    (λ h. subst (AllStand larger) (sym carriers-Bool) tt)
    (λ name h. subst (AllStand larger) (sym (carriers-Given name)) (sets name (subst (AllStand env) (carriers-Given name) h).0, tt))
    (λ t f h. subst (AllStand larger) (sym (carriers-Pow t)) (f (subst (AllStand env) (carriers-Pow t) h)))
    (λ t u f g h. let k = subst (AllStand env) (carriers-Pair t u) h in
    subst (AllStand larger) (sym (carriers-Pair t u))
    (all_append (Stands larger) (carriers t) (carriers u) (f (all_front (Stands env) (carriers t) (carriers u) k)) (g (all_back (Stands env) (carriers t) (carriers u) k))))
    (λ h. subst (AllStand larger) (sym carriers-Truth) tt)
