-- Formulas of a type that are well below bound identifiers, and whose identifiers all stand in an environment.
use Rattle.std.proofs.Common.{◌≡◌, ℕ, true, List, [], ◌∷◌}
use Rattle.std.specs.Prelude.{⊤}
use Rattle.std.specs.List.{AllByRecursion}
use Rattle.formula_core.specs.declared.Ty.{Ty}
use Rattle.formula_core.specs.declared.Formula.{Formula}
use Rattle.formula_core.specs.Identifiers.{carriers, identifiers}
use Rattle.formula_core.specs.Typed.{Stands}
use Rattle.formula_core.specs.Wellness.{type_of, is_well_in}

abbrev pub Env : Type 0
Env = List (List ℕ × Ty)

-- each carrier set of a type stands there
abbrev pub Carried : Env → Ty → Type 0
Carried env t = AllByRecursion (Stands env) (carriers t)

-- a formula of this type
pub record Is (env : Env) (bound : List Ty) (t : Ty) (f : Formula) : Type 0 where
  pub type : type_of f ≡ t
  pub well : is_well_in f bound ≡ true
  pub names : AllByRecursion (Stands env) (identifiers f)

-- formulas of these types
abbrev pub AreOf : Env → List Ty → List Ty → List Formula → Type 0
AreOf env bound [] [] = ⊤
AreOf env bound (t ∷ ts) (p ∷ ps) = Is env bound t p × AreOf env bound ts ps
AreOf env bound _ _ = ⊥
