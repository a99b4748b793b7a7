-- Names in order: where each of them stands in one environment, each has there its type.
use Rattle.std.proofs.Common.{◌≡◌, ◌∙◌, sym, ap, subst, refl, ℕ, Bool, true, false, cond, List, [], ◌∷◌, fold, Option, Some}
use Rattle.std.specs.Prelude.{bytes_eq, not, filter}
use Rattle.std.specs.List.{AllByRecursion}
use Rattle.std.specs.BTreeMap.{is_at}
use Rattle.std.specs.Map.{lookup}
use Rattle.std.specs.declared.cmp.Ordering.{Ordering}
use Rattle.std.specs.declared.cmp.Ordering.TheVariants.{Less, Equal, Greater}
use Rattle.std.specs.Ordering.{nat_cmp, match_ordering, is_eq}
use Rattle.std.specs.Cmp.Lexicographic.{slice_cmp, same_text}
use Rattle.std.proofs.lemmas.Map.Lookups.{exact_bytes}
use Rattle.std.proofs.lemmas.Map.Text.{is_eq-slice_cmp}
use Rattle.std.proofs.lemmas.Slice.Eq.{bytes_eq-Decides}
use Rattle.formula_core.specs.declared.Ty.{Ty}
use Rattle.formula_core.specs.Env.{type_in}
use Rattle.formula_core.specs.Typed.{Stands}
use Rattle.rule_table.specs.Rules.{with_name, sorted_by_name, is_named}

abbrev pub Names : Type 0
Names = List (List ℕ × Ty)

twice : (b : Bool) (s t u : Option Ty) → cond b s u ≡ cond b s (cond b t u)
twice true s t u = refl
twice false s t u = refl

swapped : (a b : Bool) (s t u : Option Ty) → (a ≡ true → b ≡ true → ⊥) → cond a t (cond b s u) ≡ cond b s (cond a t u)
swapped true true s t u h = absurd (h refl refl)
swapped true false s t u h = refl
swapped false b s t u h = refl

-- the type of a name after one was added
module _ (x : List ℕ × Ty) (name : List ℕ) where
  apart : (other : List ℕ) → slice_cmp nat_cmp x.0 other ≡ Greater → bytes_eq name other ≡ true → bytes_eq name x.0 ≡ true → ⊥
  apart other h a b =
      let e : x.0 ≡ other = sym (same_text name x.0 (sym b)) ∙ same_text name other (sym a) in
      let same : bytes_eq x.0 other ≡ true = subst (λ n. bytes_eq n other ≡ true) (same_text name x.0 (sym b)) a in
      let is : is_eq (slice_cmp nat_cmp x.0 other) ≡ true = is_eq-slice_cmp x.0 other ∙ same in
      let is_not : is_eq (slice_cmp nat_cmp x.0 other) ≡ false = ap is_eq h in
      cc

  at : (e : List ℕ × Ty) (es : Names) (r : Ordering) → slice_cmp nat_cmp x.0 e.0 ≡ r
      → type_in (with_name es x) name ≡ cond (bytes_eq name x.0) (Some x.1) (type_in es name)
      → type_in (match_ordering r ((x.0, x.1) ∷ e ∷ es) ((e.0, x.1) ∷ es) (e ∷ with_name es x)) name ≡ cond (bytes_eq name x.0) (Some x.1) (type_in (e ∷ es) name)
  at e es Less h rest = refl
  at e es Equal h rest =
      twice (bytes_eq name e.0) (Some x.1) (Some e.1) (type_in es name)
      ∙ ap (λ n. cond (bytes_eq name n) (Some x.1) (type_in (e ∷ es) name)) (sym (exact_bytes x.0 e.0 h))
  at e es Greater h rest =
      ap (λ t. cond (bytes_eq name e.0) (Some e.1) t) rest
      ∙ swapped (bytes_eq name e.0) (bytes_eq name x.0) (Some x.1) (Some e.1) (type_in es name) (apart e.0 h)

  pub type_in-with_name : (sorted : Names) → type_in (with_name sorted x) name ≡ cond (bytes_eq name x.0) (Some x.1) (type_in sorted name)
  type_in-with_name [] = refl
  type_in-with_name (e ∷ es) = at e es (slice_cmp nat_cmp x.0 e.0) refl (type_in-with_name es)

-- what holds of all names holds of the sorted ones
module _ (P : List ℕ × Ty → Type 0) where
  placed : (x e : List ℕ × Ty) (es : Names) (r : Ordering) → slice_cmp nat_cmp x.0 e.0 ≡ r → P (x.0, x.1) → P e → AllByRecursion P es → AllByRecursion P (with_name es x)
      → AllByRecursion P (match_ordering r ((x.0, x.1) ∷ e ∷ es) ((e.0, x.1) ∷ es) (e ∷ with_name es x))
  placed x e es Less h p q ps rest = (p, (q, ps))
  placed x e es Equal h p q ps rest = (subst (λ n. P (n, x.1)) (exact_bytes x.0 e.0 h) p, ps)
  placed x e es Greater h p q ps rest = (q, rest)

  all_with_name : (sorted : Names) (x : List ℕ × Ty) → AllByRecursion P sorted → P x → AllByRecursion P (with_name sorted x)
  all_with_name [] x ps p = (p, tt)
  all_with_name (e ∷ es) x ps p = placed x e es (slice_cmp nat_cmp x.0 e.0) refl p ps.0 ps.1 (all_with_name es x ps.1 p)

  all_sorted : (names sorted : Names) → AllByRecursion P sorted → AllByRecursion P names → AllByRecursion P (fold with_name sorted names)
  all_sorted [] sorted qs ps = qs
  all_sorted (x ∷ names) sorted qs ps = all_sorted names (with_name sorted x) (all_with_name sorted x qs ps.0) ps.1

  pub all_in_order : (names : Names) → AllByRecursion P names → AllByRecursion P (sorted_by_name names)
  all_in_order names ps = all_sorted names [] tt ps

itself : (name : List ℕ) → bytes_eq name name ≡ true
itself name = (bytes_eq-Decides name name).1 refl

-- names that all stand in one environment have one type each
module _ (env : Names) where
  -- two types of one name are one
  one_type : (x y : List ℕ × Ty) → Stands env x → Stands env y → bytes_eq x.0 y.0 ≡ true → Some y.1 ≡ Some x.1
  one_type x y a b h = sym b ∙ ap (type_in env) (sym (same_text x.0 y.0 (sym h))) ∙ a

  kept : (x y : List ℕ × Ty) (b : Bool) → bytes_eq x.0 y.0 ≡ b → Stands env x → Stands env y → cond b (Some y.1) (Some x.1) ≡ Some x.1
  kept x y true h p q = one_type x y p q h
  kept x y false h p q = refl

  still : (x : List ℕ × Ty) → Stands env x → (names sorted : Names) → AllByRecursion (Stands env) names → Stands sorted x → Stands (fold with_name sorted names) x
  still x p [] sorted ps s = s
  still x p (y ∷ names) sorted ps s =
      still x p names (with_name sorted y) ps.1
      (type_in-with_name y x.0 sorted ∙ ap (λ t. cond (bytes_eq x.0 y.0) (Some y.1) t) s ∙ kept x y (bytes_eq x.0 y.0) refl p ps.0)

  each_sorted : (names sorted : Names) → AllByRecursion (Stands env) names → AllByRecursion (Stands (fold with_name sorted names)) names
  each_sorted [] sorted ps = tt
  each_sorted (x ∷ names) sorted ps = (still x ps.0 names (with_name sorted x) ps.1 (type_in-with_name x x.0 sorted ∙ ap (λ b. cond b (Some x.1) (type_in sorted x.0)) (itself x.0)), each_sorted names (with_name sorted x) ps.1)

  pub each_in_order : (names : Names) → AllByRecursion (Stands env) names → AllByRecursion (Stands (sorted_by_name names)) names
  each_in_order names ps = each_sorted names [] ps

-- where nothing is added, nothing is left out
pub filter_added : (names : Names) → filter (λ x. not (is_named [] x.0)) names ≡ names
filter_added [] = refl
filter_added (x ∷ names) = ap (λ rest. x ∷ rest) (filter_added names)

-- a map finds a name as an environment does
pub lookup_at : (name : List ℕ) (es : Names) → lookup (is_at (slice_cmp nat_cmp name)) es ≡ type_in es name
lookup_at name [] = refl
lookup_at name (e ∷ es) = λ i. cond (is_eq-slice_cmp name e.0 i) (Some e.1) (lookup_at name es i)
