-- Operations whose value doesn't fit i128.
use Rattle.std.specs.Prelude.{ℤ, pos, ◌+ℤ◌, ◌-ℤ◌, ◌*ℤ◌, List, [], ◌∷◌, ◌++◌, if◌then◌else◌}
use Rattle.formula_core.specs.declared.Op.{Op}
use Rattle.formula_core.specs.declared.Op.TheVariants as op
use Rattle.formula_core.specs.declared.Formula.{Formula}
use Rattle.formula_core.specs.declared.Formula.TheOpen.{Formula-F, Node}
use Rattle.formula_core.specs.declared.Formula.TheFolds.{para-Formula}
use Rattle.rule_table.specs.Linear.{fits_i128}
use Rattle.formula_readings.specs.Forms.{negates, joins_two, turns_sign, adds_up, are_integers, compares}
use Rattle.formula_readings.specs.Readings.{number_by}

-- the two operands, where the value doesn't fit
abbrev pub unless_fitting : ℤ → ℤ → ℤ → List (ℤ × ℤ)
unless_fitting value m n = if fits_i128 value then [] else (m, n) ∷ []

-- a negation has 0 as its first operand
abbrev pub wide_of_one : Op → ℤ → List (ℤ × ℤ)
wide_of_one op.Negate m = unless_fitting (pos 0 -ℤ m) (pos 0) m
wide_of_one _ m = []

abbrev pub wide_of_two : Op → ℤ → ℤ → List (ℤ × ℤ)
wide_of_two op.Plus m n = unless_fitting (m +ℤ n) m n
wide_of_two op.Minus m n = unless_fitting (m -ℤ n) m n
wide_of_two op.Times m n = unless_fitting (m *ℤ n) m n
wide_of_two _ m n = []

abbrev pub wide_on : (Formula → ℤ) → Op → List (Formula × List (ℤ × ℤ)) → List (ℤ × ℤ)
wide_on number o (e ∷ []) = if turns_sign o then e.1 ++ wide_of_one o (number_by number e.0) else []
wide_on number o (e ∷ f ∷ []) =
    if adds_up o then e.1 ++ f.1 ++ wide_of_two o (number_by number e.0) (number_by number f.0) else []
wide_on number o _ = []

abbrev pub wide_number_step : (Formula → ℤ) → Formula-F (Formula × List (ℤ × ℤ)) → List (ℤ × ℤ)
wide_number_step number (Node o parts t) = wide_on number o parts
wide_number_step number _ = []

-- The operands of each operation of an integer expression whose value doesn't fit, in the order of computing: the left
-- operand, the right operand, the operation.
abbrev pub wide_in_number : (Formula → ℤ) → Formula → List (ℤ × ℤ)
wide_in_number number = para-Formula (List (ℤ × ℤ)) (wide_number_step number)

abbrev pub wide_compared : (Formula → ℤ) → Op → Formula → Formula → List (ℤ × ℤ)
wide_compared number o e f =
    if compares o (are_integers e f) then wide_in_number number e ++ wide_in_number number f else []

abbrev pub wide_under : (Formula → ℤ) → Op → List (Formula × List (ℤ × ℤ)) → List (ℤ × ℤ)
wide_under number o (p ∷ []) = if negates o then p.1 else []
wide_under number o (p ∷ q ∷ []) = if joins_two o then p.1 ++ q.1 else wide_compared number o p.0 q.0
wide_under number o _ = []

abbrev pub wide_truth_step : (Formula → ℤ) → Formula-F (Formula × List (ℤ × ℤ)) → List (ℤ × ℤ)
wide_truth_step number (Node o parts t) = wide_under number o parts
wide_truth_step number _ = []

-- the same of a predicate: both operands of a connective are computed, whatever the left one gives
abbrev pub wide_in_truth : (Formula → ℤ) → Formula → List (ℤ × ℤ)
wide_in_truth number = para-Formula (List (ℤ × ℤ)) (wide_truth_step number)
