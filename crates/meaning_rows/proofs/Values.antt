-- The value of a short formula, which computes.
use Rattle.std.proofs.Common.{◌≡◌, ◌∙◌, sym, ap, refl, ℕ, Bool, true, false, ◌||◌, List, [], ◌∷◌, map, slice_get}
use Rattle.formula_core.specs.declared.Op.{Op}
use Rattle.formula_core.specs.declared.Op.TheVariants as op
use Rattle.formula_core.specs.declared.Ty.TheVariants as ty
use Rattle.meanings.specs.Denotations.{Assignment, bound_value, of_binder, denotation, holds}
use Rattle.meanings.specs.Operations.{truth_value, of_list}
use Rattle.meanings.specs.Universes.{Universe, Valuation, some, every, cast}
use Rattle.meanings.specs.Values.{Sort, integer_sort, boolean_sort, Value, Denotation, sort}
use Rattle.meanings.proofs.Casts.{cast_own}
use Rattle.meanings.proofs.Denotations.{sort-Truth, denotation-Int, denotation-Bound}
use Rattle.meanings.proofs.Quantifiers.{every_tells}
use Rattle.meanings.proofs.Truths.{at_node, at_binder}
use Rattle.true_facts.proofs.Types.{type, sort_type}
use Rattle.meaning_rows.proofs.Short.{Short, plain, claim_of, claim, quantified, number, bound, none, one, two, binder, formula, relation}

pub sort_types : (own : List Sort) → map sort (map type own) ≡ own
sort_types [] = refl
sort_types (s ∷ own) = λ i. sort_type s i ∷ sort_types own i

-- one of two tests, and one alone
pub or_left : (a b : Bool) → a ≡ true → (a || b) ≡ true
or_left a b h = λ i. h i || b

pub in_second : (a b : Bool) → b ≡ true → (a || (b || false)) ≡ true
in_second true b h = refl
in_second false true h = refl
in_second false false h = h

pub one_or_none : (a : Bool) → (a || false) ≡ true → a ≡ true
one_or_none true h = refl
one_or_none false h = h

module _ {carrier : List ℕ → Type 0} (U : Universe carrier) where
  abbrev pub value : Short → Assignment U → Denotation carrier
  value (plain o) σ = (boolean_sort, of_list U o boolean_sort [])
  value (claim_of o x) σ = (boolean_sort, of_list U o boolean_sort (value x σ ∷ []))
  value (claim o x y) σ = (boolean_sort, of_list U o boolean_sort (value x σ ∷ value y σ ∷ []))
  value (quantified b own p) σ = (boolean_sort, of_binder U b own boolean_sort (value p ∷ []) σ)
  value (number k) σ = (integer_sort, k)
  value (bound k s) σ = (s, bound_value U s (slice_get σ k))
  value (none o s) σ = (s, of_list U o s [])
  value (one o s x) σ = (s, of_list U o s (value x σ ∷ []))
  value (two o s x y) σ = (s, of_list U o s (value x σ ∷ value y σ ∷ []))
  value (binder b own s p e) σ = (s, of_binder U b own s (value p ∷ value e ∷ []) σ)

  module _ (names : Valuation carrier) where
    pub means : (x : Short) (σ : Assignment U) → denotation U names (formula x) σ ≡ value x σ
    means (plain o) σ = at_node U names o [] ty.Truth boolean_sort sort-Truth σ
    means (claim_of o x) σ = at_node U names o (formula x ∷ []) ty.Truth boolean_sort sort-Truth σ ∙ (λ i. (boolean_sort, of_list U o boolean_sort (means x σ i ∷ [])))
    means (claim o x y) σ =
        at_node U names o (formula x ∷ formula y ∷ []) ty.Truth boolean_sort sort-Truth σ ∙ (λ i. (boolean_sort, of_list U o boolean_sort (means x σ i ∷ means y σ i ∷ [])))
    means (quantified b own p) σ =
        at_binder U names b (map type own) (formula p ∷ []) ty.Truth boolean_sort sort-Truth σ
        ∙ (λ i. (boolean_sort, of_binder U b (sort_types own i) boolean_sort ((λ τ. means p τ i) ∷ []) σ))
    means (number k) σ = denotation-Int U names k σ
    means (bound k s) σ = denotation-Bound U names k (type s) σ ∙ (λ i. (sort_type s i, bound_value U (sort_type s i) (slice_get σ k)))
    means (none o s) σ = at_node U names o [] (type s) s (sort_type s) σ
    means (one o s x) σ = at_node U names o (formula x ∷ []) (type s) s (sort_type s) σ ∙ (λ i. (s, of_list U o s (means x σ i ∷ [])))
    means (two o s x y) σ =
        at_node U names o (formula x ∷ formula y ∷ []) (type s) s (sort_type s) σ ∙ (λ i. (s, of_list U o s (means x σ i ∷ means y σ i ∷ [])))
    means (binder b own s p e) σ =
        at_binder U names b (map type own) (formula p ∷ formula e ∷ []) (type s) s (sort_type s) σ
        ∙ (λ i. (s, of_binder U b (sort_types own i) s ((λ τ. means p τ i) ∷ (λ τ. means e τ i) ∷ []) σ))

    -- what a row asks, as a truth value that computes
    pub row : (o : Op) (x y : Short) → holds U names (relation o x y) ≡ truth_value U (boolean_sort, of_list U o boolean_sort (value x [] ∷ value y [] ∷ []))
    row o x y =
        ap (truth_value U) (at_node U names o (formula x ∷ formula y ∷ []) ty.Truth boolean_sort sort-Truth []
        ∙ (λ i. (boolean_sort, of_list U o boolean_sort (means x [] i ∷ means y [] i ∷ []))))

    -- an equation, by a path between the values at one sort
    pub is : (x y : Short) (s : Sort) (v : Value carrier s) → value x [] ≡ (s, v) → value y [] ≡ (s, v) → holds U names (relation op.Equal x y) ≡ true
    is x y s v e f =
        row op.Equal x y ∙ (λ i. of_same (e i) (f i)) ∙ (λ i. U.same s v (cast_own U s v i)) ∙ (U.same_exact s v v).1 refl
      where
        of_same : Denotation carrier → Denotation carrier → Bool
        of_same a b = U.same a.0 a.1 (cast U a.0 b)

    -- any predicate, by its truth value
    pub says : (x : Short) → holds U names (formula x) ≡ truth_value U (value x [])
    says x = ap (truth_value U) (means x [])

    -- a predicate, by its truth value
    pub so : (o : Op) (x y : Short) → truth_value U (boolean_sort, of_list U o boolean_sort (value x [] ∷ value y [] ∷ [])) ≡ true → holds U names (relation o x y) ≡ true
    so o x y h = row o x y ∙ h

  -- equal values, and different ones
  pub equals : (s : Sort) (v : Value carrier s) → U.same s v v ≡ true
  equals s v = (U.same_exact s v v).1 refl

  pub differs : (s : Sort) (v w : Value carrier s) → (v ≡ w → ⊥) → U.same s v w ≡ false
  differs s v w h = go (U.same s v w) refl
    where
      go : (b : Bool) → U.same s v w ≡ b → U.same s v w ≡ false
      go true e = absurd (h ((U.same_exact s v w).0 e))
      go false e = e

  -- a test that fails at one value, and a test that no value passes
  pub every_fails : (s : Sort) (test : Value carrier s → Bool) (v : Value carrier s) → test v ≡ false → every U s test ≡ false
  every_fails s test v h = go (every U s test) refl
    where
      go : (b : Bool) → every U s test ≡ b → every U s test ≡ false
      go false e = e
      go true e = let l : test v ≡ true = every_tells U s test e v in let m : true ≡ false = sym l ∙ h in absurd cc

  pub some_fails : (s : Sort) (test : Value carrier s → Bool) → ((v : Value carrier s) → test v ≡ false) → some U s test ≡ false
  some_fails s test h = h (U.choose s test)
