-- The set of all values of a type.
use Rattle.std.specs.Prelude.{[], ◌∷◌}
use Rattle.formula_core.specs.declared.op.Op.TheVariants as op
use Rattle.formula_core.specs.declared.ty.Ty.{Ty}
use Rattle.formula_core.specs.declared.ty.Ty.TheVariants as ty
use Rattle.formula_core.specs.declared.ty.Ty.TheOpen.{Ty-F, Int as Integer, Bool as Boolean, Given, Pow, Pair, Truth}
use Rattle.formula_core.specs.declared.ty.Ty.TheFolds.{para-Ty}
use Rattle.formula_core.specs.declared.formula.Formula.{Formula}
use Rattle.formula_core.specs.declared.formula.Formula.TheVariants as formula

-- One level. Each part stands beside its whole set.
abbrev pub whole_set_step : Ty-F (Ty × Formula) → Formula
whole_set_step Integer = formula.Node op.Integers [] (ty.Pow ty.Int)
whole_set_step Boolean = formula.Node op.Booleans [] (ty.Pow ty.Bool)
whole_set_step (Given name) = formula.Free name (ty.Pow (ty.Given name))
whole_set_step (Pow part) = formula.Node op.PowerSet (part.1 ∷ []) (ty.Pow (ty.Pow part.0))
whole_set_step (Pair left right) = formula.Node op.Product (left.1 ∷ right.1 ∷ []) (ty.Pow (ty.Pair left.0 right.0))
whole_set_step Truth = formula.Node op.EmptySet [] (ty.Pow ty.Truth)

-- the set of all values of a type: ℤ, BOOL, a carrier set, ℙ of one and × of two of these (the sort of predicates has no values)
abbrev pub whole_set : Ty → Formula
whole_set = para-Ty Formula whole_set_step
