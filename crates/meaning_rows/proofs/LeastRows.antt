-- Least numbers.
use Rattle.std.proofs.Common.{◌≡◌, ◌∙◌, sym, ap, refl, ℕ, ℤ, pos, int_le, List, Bool, true, false, ◌||◌, ◌&&◌}
use Rattle.formula_core.proofs.Weakening.{first_true, second_true}
use Rattle.formula_core.specs.declared.Op.TheVariants as op
use Rattle.meanings.specs.Operations.{implies}
use Rattle.meanings.specs.Universes.{Universe, every}
use Rattle.meanings.specs.Values.{integer_sort}
use Rattle.meanings.proofs.Quantifiers.{every_holds, every_tells}
use Rattle.meaning_rows.proofs.Short.{one, n, both, equal, IsTrueEverywhere}
use Rattle.meaning_rows.proofs.Values.{is, equals}

module _ {carrier : List ℕ → Type 0} (U : Universe carrier) where
  abbrev Test : ℤ → Bool
  Test m = U.same integer_sort m (pos 1) || (U.same integer_sort m (pos 2) || false)

  abbrev IsLeast : ℤ → Bool
  IsLeast m = Test m && every U integer_sort (λ k. implies (Test k) (int_le m k))

  above : (k : ℤ) → implies (Test k) (int_le (pos 1) k) ≡ true
  above k = go (U.same integer_sort k (pos 1)) (U.same integer_sort k (pos 2)) refl refl
    where
      go : (a b : Bool) → U.same integer_sort k (pos 1) ≡ a → U.same integer_sort k (pos 2) ≡ b → implies (a || (b || false)) (int_le (pos 1) k) ≡ true
      go true b e h = ap (int_le (pos 1)) ((U.same_exact integer_sort k (pos 1)).0 e)
      go false true e h = ap (int_le (pos 1)) ((U.same_exact integer_sort k (pos 2)).0 h)
      go false false e h = refl

  has_one : Test (pos 1) ≡ true
  has_one = λ i. equals U integer_sort (pos 1) i || (U.same integer_sort (pos 1) (pos 2) || false)

  one_is_least : IsLeast (pos 1) ≡ true
  one_is_least = λ i. has_one i && every_holds U integer_sort (λ k. implies (Test k) (int_le (pos 1) k)) above i

  least_is_one : U.choose integer_sort IsLeast ≡ pos 1
  least_is_one = go (U.same integer_sort m (pos 1)) (U.same integer_sort m (pos 2)) refl refl (first_true (Test m) _ passes)
    where
      m : ℤ
      m = U.choose integer_sort IsLeast

      passes : IsLeast m ≡ true
      passes = U.chooses integer_sort IsLeast (pos 1) one_is_least

      below : int_le m (pos 1) ≡ true
      below =
          let l : implies (Test (pos 1)) (int_le m (pos 1)) ≡ true = every_tells U integer_sort (λ k. implies (Test k) (int_le m k)) (second_true (Test m) _ passes) (pos 1) in
          ap (λ b. implies b (int_le m (pos 1))) (sym has_one) ∙ l

      go : (a b : Bool) → U.same integer_sort m (pos 1) ≡ a → U.same integer_sort m (pos 2) ≡ b → (a || (b || false)) ≡ true → m ≡ pos 1
      go true b e h t = (U.same_exact integer_sort m (pos 1)).0 e
      go false true e h t =
          let p : m ≡ pos 2 = (U.same_exact integer_sort m (pos 2)).0 h in let q : false ≡ true = sym (ap (λ k. int_le k (pos 1)) p) ∙ below in absurd cc
      go false false e h t = absurd cc

-- min({1, 2}) = 1
pub minimum : IsTrueEverywhere (equal (one op.Minimum integer_sort (both (n 1) (n 2))) (n 1))
minimum el U names = is U names (one op.Minimum integer_sort (both (n 1) (n 2))) (n 1) integer_sort (pos 1) (λ i. (integer_sort, least_is_one U i)) refl
