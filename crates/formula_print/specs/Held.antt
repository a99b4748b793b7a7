-- What every formula has that a program holds: its names are names, its numbers fit, and it isn't too large to be counted.
use Rattle.std.specs.Prelude.{◌≡◌, ℤ, ◌+◌, ◌<◌, ◌^◌, true, List, [], ◌∷◌, length}
use Rattle.std.specs.Int.Signed.{mag}
use Rattle.std.specs.List.{AllByRecursion}
use Rattle.formula_core.specs.declared.formula.Formula.{Formula}
use Rattle.formula_core.specs.declared.formula.Formula.TheOpen.{Formula-F, Int, Free, Bound, Node, Bind}
use Rattle.formula_core.specs.declared.formula.Formula.TheFolds.{fold-Formula}
use Rattle.formula_core.specs.Formulas.{joined}
use Rattle.formula_core.specs.Identifiers.{identifiers}
use Rattle.formula_core.specs.Names.{is_name}
use Rattle.formula_print.specs.Depths.{deepest}

abbrev pub literals_step : Formula-F (List ℤ) → List ℤ
literals_step (Int n) = n ∷ []
literals_step (Free name ty) = []
literals_step (Bound at ty) = []
literals_step (Node op parts ty) = joined parts
literals_step (Bind binder types parts ty) = joined parts

-- each number of a formula, at each of its places
abbrev pub literals : Formula → List ℤ
literals = fold-Formula (List ℤ) literals_step

-- none of its numbers is too wide for a token
abbrev pub HasNarrowNumbers : Formula → Type 0
HasNarrowNumbers f = AllByRecursion (λ n. mag n < 2 ^ 127) (literals f)

-- its identifiers and the carrier sets of its types are names
abbrev pub HasNames : Formula → Type 0
HasNames f = AllByRecursion (λ x. is_name x.0 ≡ true) (identifiers f)

-- its identifiers are so few that numbers of 64 bits count the names of those that it binds
abbrev pub HasFewNames : Formula → Type 0
HasFewNames f = deepest f + length (identifiers f) < 2 ^ 64

pub record IsHeld (f : Formula) : Type 0 where
  pub names : HasNames f
  pub counted : HasFewNames f
  pub narrow : HasNarrowNumbers f
