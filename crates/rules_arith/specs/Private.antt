-- What only private contracts cite.
use Rattle.std.specs.Prelude.{ℤ, pos, neg_ℤ, List, [], ◌∷◌, ◌++◌, Ok, Option, Some, None, Bool, true, false, if◌then◌else◌}
use Rattle.std.specs.Option.{option_map, option_and_then}
use Rattle.formula_core.specs.declared.Op.{Op}
use Rattle.formula_core.specs.declared.Op.TheVariants as op
use Rattle.formula_core.specs.declared.Formula.{Formula}
use Rattle.rule_table.specs.Linear.{Act, plus, minus, times, Linear, OrTooWide, then_do, checked, is_met, further, joined_by, times_form, hypothesis_form}
use Rattle.rule_table.specs.Linear.{shape, LinearShape, at_most, less, equation, falsum, other}
use Rattle.rules_arith.specs.declared.step.Comparison.{Comparison}
use Rattle.rules_arith.specs.declared.step.Comparison.TheVariants as comparison
use Rattle.rule_table.specs.Shapes.{literal, numeral}
use Rattle.rule_table.specs.ArithmeticLaws.{computed_value, is_numeral_value}
use Rattle.rules_arith.specs.declared.joining.Factor.{Factor}
use Rattle.rules_arith.specs.declared.joining.Factor.TheVariants as factor
use Rattle.rules_arith.specs.declared.joining.Joining.{Joining}
use Rattle.rules_arith.specs.declared.joining.Joining.TheVariants as joining

-- a value that isn't too wide
abbrev pub narrow : ℤ → Option ℤ
narrow z = if is_numeral_value z then Some z else None

-- the value of `m op n`, where it is well defined, without what is too wide
abbrev pub narrow_value : Op → ℤ → ℤ → Option (Option ℤ)
narrow_value o m n = option_map narrow (computed_value o m n)

-- the values of two numerals, and of a negated literal
abbrev pub two_numerals : List Formula → Option (ℤ × ℤ)
two_numerals (p ∷ q ∷ []) = option_and_then (λ m. option_map (λ n. (m, n)) (numeral q)) (numeral p)
two_numerals _ = None

abbrev pub negated_literal : List Formula → Option ℤ
negated_literal (p ∷ []) = option_map neg_ℤ (literal p)
negated_literal _ = None

-- one more atom behind others
abbrev pub with_coefficient : OrTooWide (List (Formula × ℤ)) → Formula → OrTooWide ℤ → OrTooWide (List (Formula × ℤ))
with_coefficient done f n = then_do done (λ xs. then_do n (λ n. Ok (xs ++ (f, n) ∷ [])))

abbrev pub add_new : Act → List (Formula × ℤ) → OrTooWide (List (Formula × ℤ)) → Formula × ℤ → OrTooWide (List (Formula × ℤ))
add_new act first done b = if is_met first b.0 then done else with_coefficient done b.0 (checked act (pos 0) b.1)

-- the operators whose linear form may be more than the whole as an atom
abbrev pub has_linear_parts : Op → Bool
has_linear_parts op.Negate = true
has_linear_parts op.Plus = true
has_linear_parts op.Minus = true
has_linear_parts op.Times = true
has_linear_parts _ = false

-- the comparison that a formula makes
abbrev pub shape_of : Comparison → LinearShape
shape_of (comparison.AtMost e f) = at_most e.now f.now
shape_of (comparison.Less e f) = less e.now f.now
shape_of (comparison.Equation e f) = equation e.now f.now
shape_of comparison.Falsum = falsum
shape_of comparison.Other = other

-- a multiplied hypothesis more in a sum
abbrev pub with_hypothesis : OrTooWide Linear → Formula → ℤ → OrTooWide Linear
with_hypothesis total h k =
    then_do total (λ t. then_do (hypothesis_form (shape h)) (λ a. then_do (times_form k a) (joined_by plus t)))

-- a form of a constant, of the atoms that are kept, and of those of another list that are new
abbrev pub joined_with : Act → OrTooWide ℤ → OrTooWide (List (Formula × ℤ)) → List (Formula × ℤ) → OrTooWide Linear
joined_with act c kept others =
    then_do c (λ c. then_do kept (λ ks. then_do (further act ks others) (λ fs. Ok (record { constant = c; atoms = ks ++ fs }))))

-- the operation that joins the numbers of two forms, and the one that multiplies them
abbrev pub act_of : Joining → Act
act_of joining.Sum = plus
act_of joining.Difference = minus

abbrev pub times_by : Factor → ℤ → OrTooWide ℤ
times_by (factor.First k) = checked times k
times_by (factor.Second k) = λ n. checked times n k
