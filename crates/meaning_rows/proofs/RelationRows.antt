-- Relations: pairs that are in what an operator makes.
use Rattle.std.proofs.Common.{◌≡◌, refl, ℕ, pos, List, Bool, true, false, ◌||◌, ◌&&◌, not}
use Rattle.formula_core.specs.declared.Op.TheVariants as op
use Rattle.meanings.specs.Operations.{implies}
use Rattle.meanings.specs.Universes.{Universe}
use Rattle.meanings.specs.Values.{Sort, integer_sort, power_sort, pair_sort, Value}
use Rattle.meanings.proofs.Quantifiers.{some_holds, every_holds}
use Rattle.meaning_rows.proofs.Short.{Short, none, one, two, n, maps, both, just, only, set, pairs, relations, member, IsTrueEverywhere}
use Rattle.meaning_rows.proofs.Values.{so, equals, differs, or_left, in_second}

-- a value is in the set of it alone, and another isn't
pub in_one : {carrier : List ℕ → Type 0} (U : Universe carrier) (s : Sort) (v : Value carrier s) → (U.same s v v || false) ≡ true
in_one U s v = λ i. equals U s v i || false

pub one_two : {carrier : List ℕ → Type 0} (U : Universe carrier) → not (U.same integer_sort (pos 1) (pos 2) || false) ≡ true
one_two U = λ i. not (differs U integer_sort (pos 1) (pos 2) (λ e. absurd cc) i || false)

pub two_one : {carrier : List ℕ → Type 0} (U : Universe carrier) → not (U.same integer_sort (pos 2) (pos 1) || false) ≡ true
two_one U = λ i. not (differs U integer_sort (pos 2) (pos 1) (λ e. absurd cc) i || false)

-- what is in {2} is in {1, 2}
pub second_of : (a b : Bool) → implies (b || false) (a || (b || false)) ≡ true
second_of a true = in_second a true refl
second_of a false = refl

abbrev pub f : Short
f = only (maps (n 1) (n 2))

-- 1 ∈ dom({1 ↦ 2})
pub domain : IsTrueEverywhere (member (n 1) (one op.Domain set f))
domain el U names =
    so U names op.Member (n 1) (one op.Domain set f)
    (some_holds U integer_sort (λ w. U.same pairs (pos 1, w) (pos 1, pos 2) || false) (pos 2) (in_one U pairs (pos 1, pos 2)))

-- 2 ∈ ran({1 ↦ 2})
pub range : IsTrueEverywhere (member (n 2) (one op.Range set f))
range el U names =
    so U names op.Member (n 2) (one op.Range set f)
    (some_holds U integer_sort (λ v. U.same pairs (v, pos 2) (pos 1, pos 2) || false) (pos 1) (in_one U pairs (pos 1, pos 2)))

-- 2 ∈ {1 ↦ 2}[{1}]
pub image : IsTrueEverywhere (member (n 2) (two op.Image set f (just (n 1))))
image el U names =
    so U names op.Member (n 2) (two op.Image set f (just (n 1)))
    (some_holds U integer_sort (λ v. (U.same integer_sort v (pos 1) || false) && (U.same pairs (v, pos 2) (pos 1, pos 2) || false)) (pos 1)
    (λ i. in_one U integer_sort (pos 1) i && in_one U pairs (pos 1, pos 2) i))

-- 1 ↦ 3 ∈ {1 ↦ 2} ; {2 ↦ 3}
pub composition : IsTrueEverywhere (member (maps (n 1) (n 3)) (two op.Composition relations f (only (maps (n 2) (n 3)))))
composition el U names =
    so U names op.Member (maps (n 1) (n 3)) (two op.Composition relations f (only (maps (n 2) (n 3))))
    (some_holds U integer_sort (λ z. (U.same pairs (pos 1, z) (pos 1, pos 2) || false) && (U.same pairs (z, pos 3) (pos 2, pos 3) || false)) (pos 2)
    (λ i. in_one U pairs (pos 1, pos 2) i && in_one U pairs (pos 2, pos 3) i))

-- 2 ↦ 1 ∈ {1 ↦ 2}∼
pub converse : IsTrueEverywhere (member (maps (n 2) (n 1)) (one op.Converse relations f))
converse el U names = so U names op.Member (maps (n 2) (n 1)) (one op.Converse relations f) (in_one U pairs (pos 1, pos 2))

-- 1 ↦ 2 ∈ {1} × {2}
pub product : IsTrueEverywhere (member (maps (n 1) (n 2)) (two op.Product relations (just (n 1)) (just (n 2))))
product el U names =
    so U names op.Member (maps (n 1) (n 2)) (two op.Product relations (just (n 1)) (just (n 2)))
    (λ i. in_one U integer_sort (pos 1) i && in_one U integer_sort (pos 2) i)

-- 1 ↦ 2 ∈ {1} ◁ {1 ↦ 2}, {2} ⩤ {1 ↦ 2}, {1 ↦ 2} ▷ {2}, {1 ↦ 2} ⩥ {1}
pub domain_restriction : IsTrueEverywhere (member (maps (n 1) (n 2)) (two op.DomainRestriction relations (just (n 1)) f))
domain_restriction el U names =
    so U names op.Member (maps (n 1) (n 2)) (two op.DomainRestriction relations (just (n 1)) f)
    (λ i. in_one U integer_sort (pos 1) i && in_one U pairs (pos 1, pos 2) i)

pub domain_subtraction : IsTrueEverywhere (member (maps (n 1) (n 2)) (two op.DomainSubtraction relations (just (n 2)) f))
domain_subtraction el U names =
    so U names op.Member (maps (n 1) (n 2)) (two op.DomainSubtraction relations (just (n 2)) f)
    (λ i. one_two U i && in_one U pairs (pos 1, pos 2) i)

pub range_restriction : IsTrueEverywhere (member (maps (n 1) (n 2)) (two op.RangeRestriction relations f (just (n 2))))
range_restriction el U names =
    so U names op.Member (maps (n 1) (n 2)) (two op.RangeRestriction relations f (just (n 2)))
    (λ i. in_one U pairs (pos 1, pos 2) i && in_one U integer_sort (pos 2) i)

pub range_subtraction : IsTrueEverywhere (member (maps (n 1) (n 2)) (two op.RangeSubtraction relations f (just (n 1))))
range_subtraction el U names =
    so U names op.Member (maps (n 1) (n 2)) (two op.RangeSubtraction relations f (just (n 1)))
    (λ i. in_one U pairs (pos 1, pos 2) i && two_one U i)

-- 1 ↦ 3 ∈ {1 ↦ 2} <+ {1 ↦ 3}
pub overriding : IsTrueEverywhere (member (maps (n 1) (n 3)) (two op.Overriding relations f (only (maps (n 1) (n 3)))))
overriding el U names =
    so U names op.Member (maps (n 1) (n 3)) (two op.Overriding relations f (only (maps (n 1) (n 3))))
    (or_left _ _ (in_one U pairs (pos 1, pos 3)))

-- 1 ↦ (2 ↦ 3) ∈ {1 ↦ 2} ⊗ {1 ↦ 3}
pub direct : IsTrueEverywhere (member (two op.Maplet (pair_sort integer_sort pairs) (n 1) (maps (n 2) (n 3))) (two op.DirectProduct (power_sort (pair_sort integer_sort pairs)) f (only (maps (n 1) (n 3)))))
direct el U names =
    so U names op.Member (two op.Maplet (pair_sort integer_sort pairs) (n 1) (maps (n 2) (n 3))) (two op.DirectProduct (power_sort (pair_sort integer_sort pairs)) f (only (maps (n 1) (n 3))))
    (λ i. in_one U pairs (pos 1, pos 2) i && in_one U pairs (pos 1, pos 3) i)

-- (1 ↦ 3) ↦ (2 ↦ 4) ∈ {1 ↦ 2} ∥ {3 ↦ 4}
pub parallel : IsTrueEverywhere (member (two op.Maplet (pair_sort pairs pairs) (maps (n 1) (n 3)) (maps (n 2) (n 4))) (two op.ParallelProduct (power_sort (pair_sort pairs pairs)) f (only (maps (n 3) (n 4)))))
parallel el U names =
    so U names op.Member (two op.Maplet (pair_sort pairs pairs) (maps (n 1) (n 3)) (maps (n 2) (n 4))) (two op.ParallelProduct (power_sort (pair_sort pairs pairs)) f (only (maps (n 3) (n 4))))
    (λ i. in_one U pairs (pos 1, pos 2) i && in_one U pairs (pos 3, pos 4) i)

-- (1 ↦ 2) ↦ 1 ∈ prj1, (1 ↦ 2) ↦ 2 ∈ prj2, 1 ↦ 1 ∈ id
pub first : IsTrueEverywhere (member (two op.Maplet (pair_sort pairs integer_sort) (maps (n 1) (n 2)) (n 1)) (none op.FirstProjection (power_sort (pair_sort pairs integer_sort))))
first el U names =
    so U names op.Member (two op.Maplet (pair_sort pairs integer_sort) (maps (n 1) (n 2)) (n 1)) (none op.FirstProjection (power_sort (pair_sort pairs integer_sort)))
    (equals U integer_sort (pos 1))

pub second : IsTrueEverywhere (member (two op.Maplet (pair_sort pairs integer_sort) (maps (n 1) (n 2)) (n 2)) (none op.SecondProjection (power_sort (pair_sort pairs integer_sort))))
second el U names =
    so U names op.Member (two op.Maplet (pair_sort pairs integer_sort) (maps (n 1) (n 2)) (n 2)) (none op.SecondProjection (power_sort (pair_sort pairs integer_sort)))
    (equals U integer_sort (pos 2))

pub identity : IsTrueEverywhere (member (maps (n 1) (n 1)) (none op.Identity relations))
identity el U names = so U names op.Member (maps (n 1) (n 1)) (none op.Identity relations) (equals U integer_sort (pos 1))

-- {2} ∈ ℙ({1, 2})
pub power_set : IsTrueEverywhere (member (just (n 2)) (one op.PowerSet (power_sort set) (both (n 1) (n 2))))
power_set el U names =
    so U names op.Member (just (n 2)) (one op.PowerSet (power_sort set) (both (n 1) (n 2)))
    (every_holds U integer_sort (λ x. implies (U.same integer_sort x (pos 2) || false) (U.same integer_sort x (pos 1) || (U.same integer_sort x (pos 2) || false)))
    (λ x. second_of (U.same integer_sort x (pos 1)) (U.same integer_sort x (pos 2))))
