-- The variables that actions assign nondeterministically, each once.
use Rattle.std.proofs.Common.{◌≡◌, ◌∙◌, ◌⊎◌, inl, inr, sym, ap, subst, refl, ℕ, Bool, true, false, cond, ◌||◌, List, [], ◌∷◌, ◌++◌, map, Some, None}
use Rattle.std.specs.Prelude.{bytes_eq}
use Rattle.std.specs.List.{AllByRecursion, IsDistinct, filter}
use Rattle.std.specs.Map.{keys_of}
use Rattle.std.specs.Cmp.Lexicographic.{same_text}
use Rattle.formula_core.specs.declared.ty.Ty.{Ty}
use Rattle.formula_core.specs.declared.formula.Formula.{Formula}
use Rattle.formula_core.specs.declared.raw.Action.{Action}
use Rattle.formula_core.specs.declared.raw.Action.TheVariants.{Assign, ChooseIn, ChooseSuch}
use Rattle.formula_core.specs.Env.{HasDistinctNames, type_in}
use Rattle.formula_core.specs.Laws.{IsWithin}
use Rattle.formula_core.specs.Typed.{Stands}
use Rattle.formula_core.proofs.Keeping.{front, back, both}
use Rattle.model_core.specs.Each.{for_each, is_among}
use Rattle.po_rules.specs.Parts.{open_targets, as_term, new_values}
use Rattle.formula_core.specs.Names.{with_prime}
use Rattle.sequent_laws.specs.Sound.{Environment, targets_of_all, AreAmong}
use Rattle.sequent_laws.proofs.Environments.{of_keys, to_keys, distinct_append}
use Rattle.sequent_laws.proofs.Primes.{name_is}
use Rattle.sequent_laws.proofs.Rows.{all_filtered}

or_cases : (a b : Bool) → (a || b) ≡ true → (a ≡ true) ⊎ (b ≡ true)
or_cases true b e = inl refl
or_cases false b e = inr e

keys_append : {X : Type 0} (xs ys : List (List ℕ × X)) → keys_of (xs ++ ys) ≡ keys_of xs ++ keys_of ys
keys_append [] ys = refl
keys_append (x ∷ xs) ys = ap (λ ks. x.0 ∷ ks) (keys_append xs ys)

keys_kept : (ts : Environment) → keys_of (map (λ y. (y.0, as_term (with_prime y))) ts) ≡ keys_of ts
keys_kept [] = refl
keys_kept (t ∷ ts) = ap (λ ks. t.0 ∷ ks) (keys_kept ts)

-- an action leaves none of its targets open, or all
open_or_given : (a : Action) → (keys_of (open_targets a) ≡ []) ⊎ (keys_of (open_targets a) ≡ keys_of (new_values a))
open_or_given (Assign pairs) = inl refl
open_or_given (ChooseIn x s) = inr (sym (keys_kept (open_targets (ChooseIn x s))))
open_or_given (ChooseSuch targets q) = inr (sym (keys_kept targets))

open_has : (P : List ℕ → Type 0) (a : Action) → AllByRecursion P (keys_of (new_values a)) → AllByRecursion P (keys_of (open_targets a))
open_has P a h = elim (open_or_given a) [
  | inl e ↦ subst (AllByRecursion P) (sym e) tt
  | inr e ↦ subst (AllByRecursion P) (sym e) h
]

-- what holds of all that is assigned holds of what is so nondeterministically
pub chosen_have : (P : List ℕ → Type 0) (xs : List Action) → AllByRecursion P (targets_of_all xs) → AllByRecursion P (keys_of (for_each open_targets xs))
chosen_have P [] h = tt
chosen_have P (a ∷ xs) h =
    let k = subst (AllByRecursion P) (keys_append (new_values a) (for_each new_values xs)) h in
    subst (AllByRecursion P) (sym (keys_append (open_targets a) (for_each open_targets xs)))
    (both P (keys_of (open_targets a)) (keys_of (for_each open_targets xs)) (open_has P a (front P (keys_of (new_values a)) (targets_of_all xs) k))
    (chosen_have P xs (back P (keys_of (new_values a)) (targets_of_all xs) k)))

names_back : (ks rest : List (List ℕ)) → IsDistinct bytes_eq (ks ++ rest) → IsDistinct bytes_eq rest
unfolding IsDistinct
names_back [] rest d = d
names_back (k ∷ ks) rest d = names_back ks rest d.1

names_before : (ks : List (List ℕ)) (xs : List Action) → IsDistinct bytes_eq (ks ++ targets_of_all xs) → IsDistinct bytes_eq (keys_of (for_each open_targets xs)) → IsDistinct bytes_eq (ks ++ keys_of (for_each open_targets xs))
unfolding IsDistinct
names_before [] xs d e = e
names_before (k ∷ ks) xs d e = (
  both (λ y. bytes_eq k y ≡ false) ks (keys_of (for_each open_targets xs)) (front (λ y. bytes_eq k y ≡ false) ks (targets_of_all xs) d.0)
      (chosen_have (λ y. bytes_eq k y ≡ false) xs (back (λ y. bytes_eq k y ≡ false) ks (targets_of_all xs) d.0)),
  names_before ks xs d.1 e,
)

distinct_none : IsDistinct bytes_eq []
unfolding IsDistinct
distinct_none = tt

pub chosen_distinct : (xs : List Action) → IsDistinct bytes_eq (targets_of_all xs) → HasDistinctNames (for_each open_targets xs)
chosen_distinct [] d = distinct_none
chosen_distinct (a ∷ xs) d =
    let k = subst (IsDistinct bytes_eq) (keys_append (new_values a) (for_each new_values xs)) d in
    let rest = chosen_distinct xs (names_back (keys_of (new_values a)) (targets_of_all xs) k) in
    subst (IsDistinct bytes_eq) (sym (keys_append (open_targets a) (for_each open_targets xs)))
    (elim (open_or_given a) [
      | inl e ↦ subst (λ ks. IsDistinct bytes_eq (ks ++ keys_of (for_each open_targets xs))) (sym e) rest
      | inr e ↦ subst (λ ks. IsDistinct bytes_eq (ks ++ keys_of (for_each open_targets xs))) (sym e) (names_before (keys_of (new_values a)) xs k rest)
    ])

keep_one : (b : Bool) (t : List ℕ × Ty) (rest : Environment) → AllByRecursion (λ y. bytes_eq t.0 y.0 ≡ false) rest → HasDistinctNames rest → HasDistinctNames (cond b (t ∷ rest) rest)
unfolding IsDistinct
keep_one true t rest h d = (to_keys (λ y. bytes_eq t.0 y ≡ false) rest h, d)
keep_one false t rest h d = d

pub filter_distinct : (keep : List ℕ × Ty → Bool) (ts : Environment) → HasDistinctNames ts → HasDistinctNames (filter keep ts)
unfolding IsDistinct
filter_distinct keep [] d = tt
filter_distinct keep (t ∷ ts) d =
    keep_one (keep t) t (filter keep ts) (all_filtered (λ y. bytes_eq t.0 y.0 ≡ false) keep ts (of_keys (λ y. bytes_eq t.0 y ≡ false) ts d.0)) (filter_distinct keep ts d.1)

pub filter_holds : (keep : List ℕ × Ty → Bool) (ts : Environment) → AllByRecursion (λ x. keep x ≡ true) (filter keep ts)
filter_holds keep [] = tt
filter_holds keep (t ∷ ts) =
    let go : (b : Bool) → keep t ≡ b → AllByRecursion (λ x. keep x ≡ true) (cond b (t ∷ filter keep ts) (filter keep ts)) = elim [
      | true ↦ λ e. (e, filter_holds keep ts)
      | false ↦ λ e. filter_holds keep ts
    ] in
    go (keep t) refl

none_among : (b : List ℕ) (ls : List (List ℕ)) → AllByRecursion (λ y. bytes_eq b y ≡ false) ls → is_among ls b ≡ false
none_among b [] h = refl
none_among b (l ∷ ls) h = ap (λ c. c || is_among ls b) h.0 ∙ none_among b ls h.1

other_name : (v b : List ℕ) (ls : List (List ℕ)) → AllByRecursion (λ y. bytes_eq v y ≡ false) ls → is_among ls b ≡ true → bytes_eq b v ≡ false
other_name v b ls h k =
    let go : (c : Bool) → bytes_eq b v ≡ c → c ≡ false = elim [
      | true ↦ λ e. sym k ∙ none_among b ls (subst (λ n. AllByRecursion (λ y. bytes_eq n y ≡ false) ls) (sym (same_text _ _ (sym e))) h)
      | false ↦ λ e. refl
    ] in
    go (bytes_eq b v) refl

-- names of two lists, in which each stands once, differ
apart : (a b : List ℕ) (vs ls : List (List ℕ)) → IsDistinct bytes_eq (vs ++ ls) → is_among vs a ≡ true → is_among ls b ≡ true → bytes_eq b a ≡ false
unfolding IsDistinct
apart a b [] ls d h k = let no : ⊥ = cc in absurd no
apart a b (v ∷ vs) ls d h k = elim (or_cases (bytes_eq a v) (is_among vs a) h) [
  | inl e ↦ subst (λ n. bytes_eq b n ≡ false) (sym (same_text _ _ (sym e))) (other_name v b ls (back (λ y. bytes_eq v y ≡ false) vs ls d.0) k)
  | inr e ↦ apart a b vs ls d.1 e k
]

none_in : (xs : Environment) (n : List ℕ) → AllByRecursion (λ x. bytes_eq n x.0 ≡ false) xs → type_in xs n ≡ None
none_in [] n h = refl
none_in (x ∷ xs) n h = ap (λ b. cond b (Some x.1) (type_in xs n)) h.0 ∙ none_in xs n h.1

module _ (vs ls : List (List ℕ)) (d : IsDistinct bytes_eq (vs ++ ls)) where
  all_apart : (n : List ℕ) → is_among ls n ≡ true → (xs : Environment) → AllByRecursion (λ x. is_among vs x.0 ≡ true) xs → AllByRecursion (λ x. bytes_eq n x.0 ≡ false) xs
  all_apart n k [] h = tt
  all_apart n k (x ∷ xs) h = (apart x.0 n vs ls d h.0 k, all_apart n k xs h.1)

  none_lost : (xs ys : Environment) → AllByRecursion (λ x. is_among vs x.0 ≡ true) xs → AllByRecursion (λ y. is_among ls y.0 ≡ true) ys → AllByRecursion (λ y. type_in xs y.0 ≡ None) ys
  none_lost xs [] h k = tt
  none_lost xs (y ∷ ys) h k = (none_in xs y.0 (all_apart y.0 k.0 xs h), none_lost xs ys h k.1)

  -- own variables and lost ones
  pub chosen_once : (own first : List Action) → IsDistinct bytes_eq (targets_of_all own) → IsDistinct bytes_eq (targets_of_all first) → AreAmong (targets_of_all own) vs
      → HasDistinctNames (for_each open_targets own ++ filter (λ x. is_among ls x.0) (for_each open_targets first))
  chosen_once own first o f h =
      distinct_append (for_each open_targets own) (filter (λ x. is_among ls x.0) (for_each open_targets first)) (chosen_distinct own o)
      (filter_distinct (λ x. is_among ls x.0) (for_each open_targets first) (chosen_distinct first f))
      (none_lost (for_each open_targets own) (filter (λ x. is_among ls x.0) (for_each open_targets first))
      (of_keys (λ n. is_among vs n ≡ true) (for_each open_targets own) (chosen_have (λ n. is_among vs n ≡ true) own h)) (filter_holds (λ x. is_among ls x.0) (for_each open_targets first)))

-- Variables stand among variables.

pub among_more : (n : List ℕ) (vs ls : List (List ℕ)) → is_among vs n ≡ true → is_among (vs ++ ls) n ≡ true
among_more n [] ls h = let no : ⊥ = cc in absurd no
among_more n (v ∷ vs) ls h =
    let go : (b : Bool) → (b || is_among vs n) ≡ true → (b || is_among (vs ++ ls) n) ≡ true = elim [
      | true ↦ λ k. refl
      | false ↦ λ k. among_more n vs ls k
    ] in
    go (bytes_eq n v) h

pub named_at : (P : List ℕ → Type 0) (names : List (List ℕ)) (n : List ℕ) → AllByRecursion P names → is_among names n ≡ true → P n
named_at P [] n h k = let no : ⊥ = cc in absurd no
named_at P (v ∷ vs) n h k = elim (or_cases (bytes_eq n v) (is_among vs n) k) [
  | inl e ↦ subst P (sym (same_text _ _ (sym e))) h.0
  | inr e ↦ named_at P vs n h.1 e
]

pub stands_filtered : (ns : List (List ℕ)) (env : Environment) (x : List ℕ × Ty) → Stands env x → is_among ns x.0 ≡ true → Stands (filter (λ y. is_among ns y.0) env) x
stands_filtered ns [] x h k = h
stands_filtered ns (z ∷ env) x h k =
    let rest = filter (λ y. is_among ns y.0) env in
    let kept : (c : Bool) → is_among ns z.0 ≡ c → z.0 ≡ x.0 → z.1 ≡ x.1 → type_in (cond c (z ∷ rest) rest) x.0 ≡ Some x.1 = elim [
      | true ↦ λ e n t. ap (λ b. cond b (Some z.1) (type_in rest x.0)) (subst (λ m. bytes_eq x.0 m ≡ true) (sym n) (name_is x.0)) ∙ ap Some t
      | false ↦ λ e n t. let no : true ≡ false = sym k ∙ ap (is_among ns) (sym n) ∙ e in absurd cc
    ] in
    let later : (c : Bool) → bytes_eq x.0 z.0 ≡ false → type_in rest x.0 ≡ Some x.1 → type_in (cond c (z ∷ rest) rest) x.0 ≡ Some x.1 = elim [
      | true ↦ λ e r. ap (λ b. cond b (Some z.1) (type_in rest x.0)) e ∙ r
      | false ↦ λ e r. r
    ] in
    let go : (b : Bool) → bytes_eq x.0 z.0 ≡ b → cond b (Some z.1) (type_in env x.0) ≡ Some x.1 → type_in (cond (is_among ns z.0) (z ∷ rest) rest) x.0 ≡ Some x.1 = elim [
      | true ↦ λ e l. let same : z.1 ≡ x.1 = cc in kept (is_among ns z.0) refl (sym (same_text _ _ (sym e))) same
      | false ↦ λ e l. later (is_among ns z.0) e (stands_filtered ns env x l k)
    ] in
    go (bytes_eq x.0 z.0) refl h

-- a target that is a variable, and stands in a larger environment, is one of the variables there
pub variable_stands : (ns : List (List ℕ)) (env big : Environment) → IsWithin env big → AllByRecursion (λ n. (t : Ty) × Stands env (n, t)) ns
    → (x : List ℕ × Ty) → Stands big x → is_among ns x.0 ≡ true → Stands (filter (λ y. is_among ns y.0) env) x
variable_stands ns env big within named x h k =
    let found = named_at (λ n. (t : Ty) × Stands env (n, t)) ns x.0 named k in
    let same : Some found.0 ≡ Some x.1 = sym (within (x.0, found.0) found.1) ∙ h in
    let here : Stands env x = found.1 ∙ same in
    stands_filtered ns env x here k

-- a name of a list stands there
pub among_stands : (env : Environment) (n : List ℕ) → is_among (keys_of env) n ≡ true → (t : Ty) × Stands env (n, t)
among_stands [] n h = let no : ⊥ = cc in absurd no
among_stands (x ∷ env) n h =
    let go : (b : Bool) → (b || is_among (keys_of env) n) ≡ true → (t : Ty) × (cond b (Some x.1) (type_in env n) ≡ Some t) = elim [
      | true ↦ λ k. (x.1, refl)
      | false ↦ λ k. among_stands env n k
    ] in
    go (bytes_eq n x.0) h

pub all_named : (env : Environment) (ws : List (List ℕ × Formula)) → AreAmong (keys_of ws) (keys_of env) → AllByRecursion (λ w. (t : Ty) × Stands env (w.0, t)) ws
all_named env [] h = tt
all_named env (w ∷ ws) h = (among_stands env w.0 h.0, all_named env ws h.1)
