-- The laws of arithmetic, from the left side to the right side.
use Rattle.std.specs.Prelude.{ℤ, pos, ◌+ℤ◌, ◌-ℤ◌, ◌*ℤ◌, ◌%◌, ◌^◌, ◌-◌, nat_le, ◌==◌, unsigned_abs, int_div, Option, Some, None, Bool, if◌then◌else◌}
use Rattle.std.specs.Option.{option_map, option_and_then}
use Rattle.formula_core.specs.declared.Op.{Op}
use Rattle.formula_core.specs.declared.Op.TheVariants as op
use Rattle.formula_core.specs.declared.Formula.{Formula, out-Formula}
use Rattle.formula_core.specs.declared.Formula.TheOpen.{Formula-F, Node}
use Rattle.formula_core.specs.Types.{is_integer}
use Rattle.formula_core.specs.Wellness.{type_of}
use Rattle.well_defined.specs.Predicates.{conjunction, at_most, less, zero}
use Rattle.rule_table.specs.Shapes.{on_one, on_two, two_of, equal, one, plus_one, minus_one, numeral, as_numeral}
use Rattle.rule_table.specs.SetLaws.{in_two, in_none, on_pair}

-- E ∈ ℕ: 0 ≤ E
abbrev pub member_of_naturals : Formula → Option Formula
member_of_naturals h = in_none op.Naturals h (λ e. Some (at_most zero e))

-- E ∈ ℕ1: 1 ≤ E
abbrev pub member_of_positive_naturals : Formula → Option Formula
member_of_positive_naturals h = in_none op.PositiveNaturals h (λ e. Some (at_most one e))

-- E ∈ a ‥ b: a ≤ E ∧ E ≤ b
abbrev pub member_of_interval : Formula → Option Formula
member_of_interval h = in_two op.Interval h (λ e a b. Some (conjunction (at_most a e) (at_most e b)))

-- E ↦ F ∈ succ: F = E + 1
abbrev pub member_of_successor : Formula → Option Formula
member_of_successor h = in_none op.Successor h (λ p. on_pair p (λ e f. Some (equal f (plus_one e))))

-- E ↦ F ∈ pred: F = E − 1
abbrev pub member_of_predecessor : Formula → Option Formula
member_of_predecessor h = in_none op.Predecessor h (λ p. on_pair p (λ e f. Some (equal f (minus_one e))))

-- ¬ E < F: F ≤ E
abbrev pub negated_less : Formula → Option Formula
negated_less h = on_one op.Not h (λ g. on_two op.Less g (λ e f. Some (at_most f e)))

-- ¬ E ≤ F: F < E
abbrev pub negated_at_most : Formula → Option Formula
negated_at_most h = on_one op.Not h (λ g. on_two op.LessOrEqual g (λ e f. Some (less f e)))

-- E = F of integers: E ≤ F ∧ F ≤ E
abbrev pub equal_integers : Formula → Option Formula
equal_integers h =
    on_two op.Equal h (λ e f. if is_integer (type_of e) then Some (conjunction (at_most e f) (at_most f e)) else None)

-- E < F: E + 1 ≤ F
abbrev pub less_is_at_most : Formula → Option Formula
less_is_at_most h = on_two op.Less h (λ e f. Some (at_most (plus_one e) f))

-- the value of `m mod n`, where 0 ≤ m and 0 < n, and of `m ^ n`, where neither is negative
abbrev pub modulo : ℤ → ℤ → Option ℤ
modulo (pos m) (pos n) = if n == 0 then None else Some (pos (m % n))
modulo _ _ = None

abbrev pub power : ℤ → ℤ → Option ℤ
power (pos m) (pos n) = Some (pos (m ^ n))
power _ _ = None

-- the value of `m op n`, where it is well defined; ÷ cuts towards zero
abbrev pub computed_value : Op → ℤ → ℤ → Option ℤ
computed_value op.Plus m n = Some (m +ℤ n)
computed_value op.Minus m n = Some (m -ℤ n)
computed_value op.Times m n = Some (m *ℤ n)
computed_value op.Divide m n = if unsigned_abs n == 0 then None else Some (int_div m n)
computed_value op.Modulo m n = modulo m n
computed_value op.Power m n = power m n
computed_value _ m n = None

-- from −(2^127 − 1) to 2^127 − 1
abbrev pub is_numeral_value : ℤ → Bool
is_numeral_value z = nat_le (unsigned_abs z) (2 ^ 127 - 1)

-- two numerals under an operator, the operator first
abbrev pub numerals_at : Formula-F Formula → Option (Op × ℤ × ℤ)
numerals_at (Node o parts t) =
    option_and_then (λ x. option_and_then (λ m. option_map (λ n. (o, m, n)) (numeral x.1)) (numeral x.0)) (two_of parts)
numerals_at _ = None

abbrev pub numerals : Formula → Option (Op × ℤ × ℤ)
numerals f = numerals_at (out-Formula f)

-- m op n, of literals or negated literals: the value, where it is well defined and not too wide
abbrev pub computed : Formula → Option Formula
computed h =
    option_and_then (λ x. option_and_then (λ v. if is_numeral_value v then Some (as_numeral v)
    else None) (computed_value x.0 x.1 x.2)) (numerals h)

-- its operands, where the value is too wide
abbrev pub too_wide : Formula → Option (ℤ × ℤ)
too_wide h =
    option_and_then (λ x. option_and_then (λ v. if is_numeral_value v then None
    else Some (x.1, x.2)) (computed_value x.0 x.1 x.2)) (numerals h)
