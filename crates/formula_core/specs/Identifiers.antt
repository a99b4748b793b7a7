-- All identifiers of a formula: the free ones, and the carrier sets of its types.
use Rattle.std.specs.Prelude.{ℕ, List, [], ◌∷◌, ◌++◌, map}
use Rattle.formula_core.specs.declared.ty.Ty.{Ty}
use Rattle.formula_core.specs.declared.ty.Ty.TheVariants as ty
use Rattle.formula_core.specs.declared.ty.Ty.TheOpen.{Ty-F, Int as Integer, Bool as Boolean, Given, Pow, Pair, Truth}
use Rattle.formula_core.specs.declared.ty.Ty.TheFolds.{fold-Ty}
use Rattle.formula_core.specs.declared.formula.Formula.{Formula}
use Rattle.formula_core.specs.declared.formula.Formula.TheOpen.{Formula-F, Int, Free, Bound, Node, Bind}
use Rattle.formula_core.specs.declared.formula.Formula.TheFolds.{fold-Formula}
use Rattle.formula_core.specs.Formulas.{joined}

abbrev pub carriers_step : Ty-F (List (List ℕ × Ty)) → List (List ℕ × Ty)
carriers_step Integer = []
carriers_step Boolean = []
carriers_step (Given name) = (name, ty.Pow (ty.Given name)) ∷ []
carriers_step (Pow part) = part
carriers_step (Pair left right) = left ++ right
carriers_step Truth = []

-- each carrier set S of a type, at each of its places, with the type ℙ(S)
abbrev pub carriers : Ty → List (List ℕ × Ty)
carriers = fold-Ty (List (List ℕ × Ty)) carriers_step

abbrev pub identifiers_step : Formula-F (List (List ℕ × Ty)) → List (List ℕ × Ty)
identifiers_step (Int n) = []
identifiers_step (Free name ty) = (name, ty) ∷ carriers ty
identifiers_step (Bound at ty) = carriers ty
identifiers_step (Node op parts ty) = joined parts ++ carriers ty
identifiers_step (Bind binder types parts ty) = joined (map carriers types) ++ joined parts ++ carriers ty

-- each free identifier and each carrier set of each type of a formula, at each of their places
abbrev pub identifiers : Formula → List (List ℕ × Ty)
identifiers = fold-Formula (List (List ℕ × Ty)) identifiers_step
