-- Inclusion, sets of sets, and what isn't injective or single.
use Rattle.std.proofs.Common.{◌≡◌, ◌∙◌, refl, ℕ, ℤ, pos, List, Bool, true, false, ◌||◌, ◌&&◌, not}
use Rattle.formula_core.specs.declared.Op.TheVariants as op
use Rattle.meanings.specs.Operations.{implies}
use Rattle.meanings.specs.Universes.{Universe, every}
use Rattle.meanings.specs.Values.{integer_sort, power_sort}
use Rattle.meanings.proofs.Quantifiers.{some_holds, every_holds}
use Rattle.meaning_rows.proofs.FalseRows.{second_false}
use Rattle.meaning_rows.proofs.RelationRows.{in_one, second_of}
use Rattle.meaning_rows.proofs.Short.{none, one, n, both, just, set, member, relation, IsTrueEverywhere, IsFalseEverywhere}
use Rattle.meaning_rows.proofs.Values.{row, so, equals, differs, every_fails}

itself : (a : Bool) → implies a a ≡ true
itself true = refl
itself false = refl

-- 1 ∈ ∅, {1} ⊂ {1}, ∅ ∈ ℙ1({1}); {1} ⊆ {1}, {1} ∈ ℙ1({1})
pub not_in_empty : IsFalseEverywhere (member (n 1) (none op.EmptySet set))
not_in_empty el U names = row U names op.Member (n 1) (none op.EmptySet set)

module _ {carrier : List ℕ → Type 0} (U : Universe carrier) where
  abbrev One : ℤ → Bool
  One x = U.same integer_sort x (pos 1) || false

  within : every U integer_sort (λ x. implies (One x) (One x)) ≡ true
  within = every_holds U integer_sort (λ x. implies (One x) (One x)) (λ x. itself (One x))

  abbrev Two : ℤ → Bool
  Two x = U.same integer_sort x (pos 2) || false

  abbrev Both : ℤ → Bool
  Both x = U.same integer_sort x (pos 1) || (U.same integer_sort x (pos 2) || false)

  narrow : every U integer_sort (λ x. implies (Two x) (Both x)) ≡ true
  narrow = every_holds U integer_sort (λ x. implies (Two x) (Both x)) (λ x. second_of (U.same integer_sort x (pos 1)) (U.same integer_sort x (pos 2)))

  wide : every U integer_sort (λ x. implies (Both x) (Two x)) ≡ false
  wide =
      every_fails U integer_sort (λ x. implies (Both x) (Two x)) (pos 1)
      (λ i. implies (equals U integer_sort (pos 1) i || (U.same integer_sort (pos 1) (pos 2) || false)) (differs U integer_sort (pos 1) (pos 2) (λ e. absurd cc) i || false))

-- {2} ⊆ {1, 2}, not {1, 2} ⊆ {2}, {2} ⊂ {1, 2}
pub included : IsTrueEverywhere (relation op.Subset (just (n 2)) (both (n 1) (n 2)))
included el U names = so U names op.Subset (just (n 2)) (both (n 1) (n 2)) (narrow U)

pub not_included : IsFalseEverywhere (relation op.Subset (both (n 1) (n 2)) (just (n 2)))
not_included el U names = row U names op.Subset (both (n 1) (n 2)) (just (n 2)) ∙ wide U

pub properly_included : IsTrueEverywhere (relation op.ProperSubset (just (n 2)) (both (n 1) (n 2)))
properly_included el U names = so U names op.ProperSubset (just (n 2)) (both (n 1) (n 2)) (λ i. narrow U i && not (wide U i))

pub inclusion : IsTrueEverywhere (relation op.Subset (just (n 1)) (just (n 1)))
inclusion el U names = so U names op.Subset (just (n 1)) (just (n 1)) (within U)

pub not_proper : IsFalseEverywhere (relation op.ProperSubset (just (n 1)) (just (n 1)))
not_proper el U names = row U names op.ProperSubset (just (n 1)) (just (n 1)) ∙ (λ i. within U i && not (within U i))

pub non_empty : IsTrueEverywhere (member (just (n 1)) (one op.NonEmptyPowerSet (power_sort set) (just (n 1))))
non_empty el U names =
    so U names op.Member (just (n 1)) (one op.NonEmptyPowerSet (power_sort set) (just (n 1)))
    (λ i. within U i && some_holds U integer_sort (One U) (pos 1) (in_one U integer_sort (pos 1)) i)

pub not_non_empty : IsFalseEverywhere (member (none op.EmptySet set) (one op.NonEmptyPowerSet (power_sort set) (just (n 1))))
not_non_empty el U names =
    row U names op.Member (none op.EmptySet set) (one op.NonEmptyPowerSet (power_sort set) (just (n 1)))
    ∙ second_false (every U integer_sort (λ x. implies false (One U x))) false refl
