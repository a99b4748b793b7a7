-- Where two values of a sort are the same.
use Rattle.std.proofs.Common.{Bool, List, arith, int_le, not, refl, subst, sym, true, false, ℕ, ℤ, ◌&&◌, ◌∙◌, ◌≡◌, ap}
use Rattle.std.proofs.lemmas.Bool.Decides.{Decides-int_eq}
use Rattle.std.proofs.lemmas.Int.{ints}
use Rattle.std.specs.Ordering.{int_eq}
use Rattle.formula_core.proofs.Weakening.{both_true, first_true, second_true}
use Rattle.meanings.specs.Operations.{equivalent, implies, is_subset}
use Rattle.meanings.specs.Universes.{Universe, every, some}
use Rattle.meanings.specs.Values.{Sort, Value, boolean_sort, integer_sort, pair_sort, power_sort}
use Rattle.meanings.proofs.Bools.{both_ways, equivalent_false, implied_to, implies_from, twice}
use Rattle.meanings.proofs.Quantifiers.{every_holds, every_tells}

between : (m n : ℤ) → (int_le m n && int_le n m) ≡ true → m ≡ n
between m n h = grind (arith, ints, h)

itself : (m : ℤ) → (int_le m m && int_le m m) ≡ true
itself m = grind (arith, ints)

equivalent_same : (b : Bool) → equivalent b b ≡ true
equivalent_same true = refl
equivalent_same false = refl

equivalent_is : (a b : Bool) → equivalent a b ≡ true → a ≡ b
equivalent_is true true h = refl
equivalent_is true false h = absurd cc
equivalent_is false true h = absurd cc
equivalent_is false false h = refl

module _ {carrier : List ℕ → Type 0} (U : Universe carrier) where
  same_is : (s : Sort) (x y : Value carrier s) (b : Bool) → (x ≡ y → b ≡ true) → (b ≡ true → x ≡ y) → U.same s x y ≡ b
  same_is s x y b f g =
      both_ways (U.same s x y) b (λ h. f ((U.same_exact s x y).0 h)) (λ h. (U.same_exact s x y).1 (g h))

  pub same_turned : (s : Sort) (x y : Value carrier s) → U.same s x y ≡ U.same s y x
  same_turned s x y =
      same_is s x y (U.same s y x) (λ h. (U.same_exact s y x).1 (sym h)) (λ h. sym ((U.same_exact s y x).0 h))

  pub same_true : (b : Bool) → U.same boolean_sort b true ≡ b
  same_true b = same_is boolean_sort b true b (λ h. h) (λ h. h)

  pub same_false : (b : Bool) → U.same boolean_sort b false ≡ not b
  same_false b = same_is boolean_sort b false (not b) (λ h. ap not h) (λ h. twice b ∙ ap not h)

  pub same_integers : (m n : ℤ) → U.same integer_sort m n ≡ (int_le m n && int_le n m)
  same_integers m n =
      same_is integer_sort m n (int_le m n && int_le n m)
      (λ h. subst (λ n. (int_le m n && int_le n m) ≡ true) h (itself m)) (between m n)

  pub same_numbers : (m n : ℤ) → U.same integer_sort m n ≡ int_eq m n
  same_numbers m n = same_is integer_sort m n (int_eq m n) (Decides-int_eq m n).1 (Decides-int_eq m n).0

  pub same_pairs : (s t : Sort) (x z : Value carrier s) (y w : Value carrier t)
      → U.same (pair_sort s t) (x, y) (z, w) ≡ (U.same s x z && U.same t y w)
  same_pairs s t x z y w =
      same_is (pair_sort s t) (x, y) (z, w) (U.same s x z && U.same t y w)
      (λ h. both_true _ _ ((U.same_exact s x z).1 (λ i. (h i).0)) ((U.same_exact t y w).1 (λ i. (h i).1)))
      (λ h i. ((U.same_exact s x z).0 (first_true _ _ h) i, (U.same_exact t y w).0 (second_true (U.same s x z) _ h) i))

  module _ (s : Sort) (A B : Value carrier s → Bool) where
    -- sets with the same members are the same
    pub same_sets : U.same (power_sort s) A B ≡ every U s (λ v. equivalent (A v) (B v))
    same_sets =
        same_is (power_sort s) A B (every U s (λ v. equivalent (A v) (B v)))
        (λ h. subst (λ B. every U s (λ v. equivalent (A v) (B v)) ≡ true) h
        (every_holds U s (λ v. equivalent (A v) (A v)) (λ v. equivalent_same (A v))))
        (λ h i v. equivalent_is (A v) (B v) (every_tells U s (λ v. equivalent (A v) (B v)) h v) i)

    within : (A B : Value carrier s → Bool) → is_subset U s A B ≡ true → (v : Value carrier s) → A v ≡ true → B v ≡ true
    within A B h v = implied_to (A v) (B v) (every_tells U s (λ v. implies (A v) (B v)) h v)

    in_itself : is_subset U s A A ≡ true
    in_itself = every_holds U s (λ v. implies (A v) (A v)) (λ v. implies_from (A v) (A v) (λ h. h))

    pub same_inclusions : U.same (power_sort s) A B ≡ (is_subset U s A B && is_subset U s B A)
    same_inclusions =
        same_is (power_sort s) A B (is_subset U s A B && is_subset U s B A)
        (λ h. subst (λ B. (is_subset U s A B && is_subset U s B A) ≡ true) h (both_true _ _ in_itself in_itself))
        (λ h i v. both_ways (A v) (B v) (within A B (first_true _ _ h) v)
        (within B A (second_true (is_subset U s A B) _ h) v) i)

  pub same_empty : (s : Sort) (A : Value carrier s → Bool)
      → U.same (power_sort s) A (λ v. false) ≡ every U s (λ v. not (A v))
  same_empty s A = same_sets s A (λ v. false) ∙ ap (every U s) (λ i v. sym (equivalent_false (A v)) i)

  pub not_same_empty : (s : Sort) (A : Value carrier s → Bool) → not (U.same (power_sort s) A (λ v. false)) ≡ some U s A
  not_same_empty s A =
      ap not (same_empty s A) ∙ sym (twice (some U s (λ v. not (not (A v)))))
      ∙ ap (some U s) (λ i v. sym (twice (A v)) i)
