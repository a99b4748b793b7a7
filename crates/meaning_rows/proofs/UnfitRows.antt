-- Relations that aren't functions, or not injective.
use Rattle.std.proofs.Common.{◌≡◌, ◌∙◌, ℕ, ℤ, pos, List, Bool, false, ◌||◌, ◌&&◌}
use Rattle.formula_core.specs.declared.Op.TheVariants as op
use Rattle.meanings.specs.Operations.{implies}
use Rattle.meanings.specs.Universes.{Universe, every}
use Rattle.meanings.specs.Values.{integer_sort, power_sort}
use Rattle.meaning_rows.proofs.FalseRows.{second_false}
use Rattle.meaning_rows.proofs.Short.{Short, two, n, just, both, maps, pairs, relations, member, IsFalseEverywhere}
use Rattle.meaning_rows.proofs.Values.{row, equals, differs, every_fails, or_left, in_second}

abbrev fork : Short
fork = two op.SetExtension relations (maps (n 1) (n 2)) (maps (n 1) (n 3))

abbrev merge : Short
merge = two op.SetExtension relations (maps (n 1) (n 2)) (maps (n 3) (n 2))

module _ {carrier : List ℕ → Type 0} (U : Universe carrier) where
  abbrev Fork : ℤ → ℤ → Bool
  Fork x y = U.same pairs (x, y) (pos 1, pos 2) || (U.same pairs (x, y) (pos 1, pos 3) || false)

  abbrev Merge : ℤ → ℤ → Bool
  Merge x y = U.same pairs (x, y) (pos 1, pos 2) || (U.same pairs (x, y) (pos 3, pos 2) || false)

  forks : every U integer_sort (λ x. every U integer_sort (λ y. every U integer_sort (λ z. implies (Fork x y && Fork x z) (U.same integer_sort y z)))) ≡ false
  forks =
      every_fails U integer_sort (λ x. every U integer_sort (λ y. every U integer_sort (λ z. implies (Fork x y && Fork x z) (U.same integer_sort y z)))) (pos 1)
      (every_fails U integer_sort (λ y. every U integer_sort (λ z. implies (Fork (pos 1) y && Fork (pos 1) z) (U.same integer_sort y z))) (pos 2)
      (every_fails U integer_sort (λ z. implies (Fork (pos 1) (pos 2) && Fork (pos 1) z) (U.same integer_sort (pos 2) z)) (pos 3)
      (λ i. implies (or_left _ (U.same pairs (pos 1, pos 2) (pos 1, pos 3) || false) (equals U pairs (pos 1, pos 2)) i && in_second (U.same pairs (pos 1, pos 3) (pos 1, pos 2)) _ (equals U pairs (pos 1, pos 3)) i)
      (differs U integer_sort (pos 2) (pos 3) (λ e. absurd cc) i))))

  merges : every U integer_sort (λ y. every U integer_sort (λ x. every U integer_sort (λ z. implies (Merge x y && Merge z y) (U.same integer_sort x z)))) ≡ false
  merges =
      every_fails U integer_sort (λ y. every U integer_sort (λ x. every U integer_sort (λ z. implies (Merge x y && Merge z y) (U.same integer_sort x z)))) (pos 2)
      (every_fails U integer_sort (λ x. every U integer_sort (λ z. implies (Merge x (pos 2) && Merge z (pos 2)) (U.same integer_sort x z))) (pos 1)
      (every_fails U integer_sort (λ z. implies (Merge (pos 1) (pos 2) && Merge z (pos 2)) (U.same integer_sort (pos 1) z)) (pos 3)
      (λ i. implies (or_left _ (U.same pairs (pos 1, pos 2) (pos 3, pos 2) || false) (equals U pairs (pos 1, pos 2)) i && in_second (U.same pairs (pos 3, pos 2) (pos 1, pos 2)) _ (equals U pairs (pos 3, pos 2)) i)
      (differs U integer_sort (pos 1) (pos 3) (λ e. absurd cc) i))))

-- {1 ↦ 2, 1 ↦ 3} ∈ {1} ⇸ {2, 3}
pub not_single : IsFalseEverywhere (member fork (two op.PartialFunctions (power_sort relations) (just (n 1)) (both (n 2) (n 3))))
not_single el U names = row U names op.Member fork (two op.PartialFunctions (power_sort relations) (just (n 1)) (both (n 2) (n 3))) ∙ second_false _ _ (forks U)

-- {1 ↦ 2, 3 ↦ 2} ∈ {1, 3} ⤔ {2}
pub not_injective : IsFalseEverywhere (member merge (two op.PartialInjections (power_sort relations) (both (n 1) (n 3)) (just (n 2))))
not_injective el U names = row U names op.Member merge (two op.PartialInjections (power_sort relations) (both (n 1) (n 3)) (just (n 2))) ∙ second_false _ _ (merges U)

-- {1 ↦ 2, 3 ↦ 2} ∈ {1, 3} ↣ {2}
pub not_total_injection : IsFalseEverywhere (member merge (two op.TotalInjections (power_sort relations) (both (n 1) (n 3)) (just (n 2))))
not_total_injection el U names = row U names op.Member merge (two op.TotalInjections (power_sort relations) (both (n 1) (n 3)) (just (n 2))) ∙ second_false _ _ (merges U)
