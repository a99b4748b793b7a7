-- Greatest numbers.
use Rattle.std.proofs.Common.{◌≡◌, ◌∙◌, sym, ap, refl, ℕ, ℤ, pos, int_le, List, Bool, true, false, ◌||◌, ◌&&◌}
use Rattle.formula_core.proofs.Weakening.{first_true, second_true}
use Rattle.formula_core.specs.declared.Op.TheVariants as op
use Rattle.meanings.specs.Operations.{implies}
use Rattle.meanings.specs.Universes.{Universe, every}
use Rattle.meanings.specs.Values.{integer_sort}
use Rattle.meanings.proofs.Quantifiers.{every_holds, every_tells}
use Rattle.meaning_rows.proofs.Short.{one, n, both, equal, IsTrueEverywhere}
use Rattle.meaning_rows.proofs.Values.{is, equals, in_second}

module _ {carrier : List ℕ → Type 0} (U : Universe carrier) where
  abbrev Test : ℤ → Bool
  Test m = U.same integer_sort m (pos 1) || (U.same integer_sort m (pos 2) || false)

  abbrev IsGreatest : ℤ → Bool
  IsGreatest m = Test m && every U integer_sort (λ k. implies (Test k) (int_le k m))

  below : (k : ℤ) → implies (Test k) (int_le k (pos 2)) ≡ true
  below k = go (U.same integer_sort k (pos 1)) (U.same integer_sort k (pos 2)) refl refl
    where
      go : (a b : Bool) → U.same integer_sort k (pos 1) ≡ a → U.same integer_sort k (pos 2) ≡ b → implies (a || (b || false)) (int_le k (pos 2)) ≡ true
      go true b e h = ap (λ x. int_le x (pos 2)) ((U.same_exact integer_sort k (pos 1)).0 e)
      go false true e h = ap (λ x. int_le x (pos 2)) ((U.same_exact integer_sort k (pos 2)).0 h)
      go false false e h = refl

  has_two : Test (pos 2) ≡ true
  has_two = in_second (U.same integer_sort (pos 2) (pos 1)) (U.same integer_sort (pos 2) (pos 2)) (equals U integer_sort (pos 2))

  two_is_greatest : IsGreatest (pos 2) ≡ true
  two_is_greatest = λ i. has_two i && every_holds U integer_sort (λ k. implies (Test k) (int_le k (pos 2))) below i

  greatest_is_two : U.choose integer_sort IsGreatest ≡ pos 2
  greatest_is_two = go (U.same integer_sort m (pos 1)) (U.same integer_sort m (pos 2)) refl refl (first_true (Test m) _ passes)
    where
      m : ℤ
      m = U.choose integer_sort IsGreatest

      passes : IsGreatest m ≡ true
      passes = U.chooses integer_sort IsGreatest (pos 2) two_is_greatest

      above : int_le (pos 2) m ≡ true
      above =
          let l : implies (Test (pos 2)) (int_le (pos 2) m) ≡ true = every_tells U integer_sort (λ k. implies (Test k) (int_le k m)) (second_true (Test m) _ passes) (pos 2) in
          ap (λ b. implies b (int_le (pos 2) m)) (sym has_two) ∙ l

      go : (a b : Bool) → U.same integer_sort m (pos 1) ≡ a → U.same integer_sort m (pos 2) ≡ b → (a || (b || false)) ≡ true → m ≡ pos 2
      go true b e h t =
          let p : m ≡ pos 1 = (U.same_exact integer_sort m (pos 1)).0 e in let q : false ≡ true = sym (ap (int_le (pos 2)) p) ∙ above in absurd cc
      go false true e h t = (U.same_exact integer_sort m (pos 2)).0 h
      go false false e h t = absurd cc

-- max({1, 2}) = 2
pub maximum : IsTrueEverywhere (equal (one op.Maximum integer_sort (both (n 1) (n 2))) (n 2))
maximum el U names = is U names (one op.Maximum integer_sort (both (n 1) (n 2))) (n 2) integer_sort (pos 2) (λ i. (integer_sort, greatest_is_two U i)) refl
