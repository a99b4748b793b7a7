-- Numbers: each operand computes.
use Rattle.std.proofs.Common.{refl, pos, negsuc}
use Rattle.formula_core.specs.declared.Op.TheVariants as op
use Rattle.meanings.specs.Values.{integer_sort}
use Rattle.meaning_rows.proofs.Short.{none, two, n, minus, maps, set, relations, equal, member, relation, IsTrueEverywhere}
use Rattle.meaning_rows.proofs.Values.{is, so}

-- 7 ÷ 2 = 3
pub divide_down : IsTrueEverywhere (equal (two op.Divide integer_sort (n 7) (n 2)) (n 3))
divide_down el U names = is U names (two op.Divide integer_sort (n 7) (n 2)) (n 3) integer_sort (pos 3) refl refl

-- −7 ÷ 2 = −3
pub divide_minus : IsTrueEverywhere (equal (two op.Divide integer_sort (minus 7) (n 2)) (minus 3))
divide_minus el U names = is U names (two op.Divide integer_sort (minus 7) (n 2)) (minus 3) integer_sort (negsuc 2) refl refl

-- 7 ÷ −2 = −3
pub divide_by_minus : IsTrueEverywhere (equal (two op.Divide integer_sort (n 7) (minus 2)) (minus 3))
divide_by_minus el U names = is U names (two op.Divide integer_sort (n 7) (minus 2)) (minus 3) integer_sort (negsuc 2) refl refl

-- 7 mod 3 = 1
pub modulo : IsTrueEverywhere (equal (two op.Modulo integer_sort (n 7) (n 3)) (n 1))
modulo el U names = is U names (two op.Modulo integer_sort (n 7) (n 3)) (n 1) integer_sort (pos 1) refl refl

-- 2 ^ 3 = 8 and 0 ^ 0 = 1
pub power_of : IsTrueEverywhere (equal (two op.Power integer_sort (n 2) (n 3)) (n 8))
power_of el U names = is U names (two op.Power integer_sort (n 2) (n 3)) (n 8) integer_sort (pos 8) refl refl

pub power_of_none : IsTrueEverywhere (equal (two op.Power integer_sort (n 0) (n 0)) (n 1))
power_of_none el U names = is U names (two op.Power integer_sort (n 0) (n 0)) (n 1) integer_sort (pos 1) refl refl

-- 2 + 3 = 5, 2 − 3 = −1, −2 ∗ 3 = −6
pub plus : IsTrueEverywhere (equal (two op.Plus integer_sort (n 2) (n 3)) (n 5))
plus el U names = is U names (two op.Plus integer_sort (n 2) (n 3)) (n 5) integer_sort (pos 5) refl refl

pub less_by : IsTrueEverywhere (equal (two op.Minus integer_sort (n 2) (n 3)) (minus 1))
less_by el U names = is U names (two op.Minus integer_sort (n 2) (n 3)) (minus 1) integer_sort (negsuc 0) refl refl

pub times : IsTrueEverywhere (equal (two op.Times integer_sort (minus 2) (n 3)) (minus 6))
times el U names = is U names (two op.Times integer_sort (minus 2) (n 3)) (minus 6) integer_sort (negsuc 5) refl refl

-- 1 < 2, 2 ≤ 2
pub less : IsTrueEverywhere (relation op.Less (n 1) (n 2))
less el U names = so U names op.Less (n 1) (n 2) refl

pub at_most : IsTrueEverywhere (relation op.LessOrEqual (n 2) (n 2))
at_most el U names = so U names op.LessOrEqual (n 2) (n 2) refl

-- 2 ∈ 1‥2, −1 ∈ ℤ, 0 ∈ ℕ, 1 ∈ ℕ1
pub interval : IsTrueEverywhere (member (n 2) (two op.Interval set (n 1) (n 2)))
interval el U names = so U names op.Member (n 2) (two op.Interval set (n 1) (n 2)) refl

pub integers : IsTrueEverywhere (member (minus 1) (none op.Integers set))
integers el U names = so U names op.Member (minus 1) (none op.Integers set) refl

pub naturals : IsTrueEverywhere (member (n 0) (none op.Naturals set))
naturals el U names = so U names op.Member (n 0) (none op.Naturals set) refl

pub positives : IsTrueEverywhere (member (n 1) (none op.PositiveNaturals set))
positives el U names = so U names op.Member (n 1) (none op.PositiveNaturals set) refl

-- 1 ↦ 2 ∈ succ, 2 ↦ 1 ∈ pred
pub successor : IsTrueEverywhere (member (maps (n 1) (n 2)) (none op.Successor relations))
successor el U names = so U names op.Member (maps (n 1) (n 2)) (none op.Successor relations) refl

pub predecessor : IsTrueEverywhere (member (maps (n 2) (n 1)) (none op.Predecessor relations))
predecessor el U names = so U names op.Member (maps (n 2) (n 1)) (none op.Predecessor relations) refl
