-- The truth of a predicate in a reading, as far as i128 goes.
use Rattle.std.specs.Prelude.{ℤ, Bool, List, [], ◌∷◌, Result, Ok, Err}
use Rattle.formula_core.specs.declared.Formula.{Formula}
use Rattle.formula_readings.specs.declared.Reading.{Reading}
use Rattle.formula_readings.specs.Readings.{truth_in, values_of}
use Rattle.readings_core.specs.declared.values.ValueFault.{ValueFault}
use Rattle.readings_core.specs.declared.values.ValueFault.TheVariants.{TooWide}
use Rattle.readings_core.specs.Widths.{wide_in_truth}

-- what is computed, unless operations on the way to it have values that don't fit: then the operands of the first
abbrev pub unless_wide : {X : Type 0} → List (ℤ × ℤ) → X → Result X ValueFault
unless_wide [] x = Ok x
unless_wide (operands ∷ further) x = Err (TooWide operands.0 operands.1)

-- the truth in a reading, or the operands of the first operation whose value doesn't fit
abbrev pub value_in : Reading → Formula → Result Bool ValueFault
value_in r f = unless_wide (wide_in_truth (values_of r).number f) (truth_in (values_of r) f)
