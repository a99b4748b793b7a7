-- Formulas that are typed in an environment.
use Rattle.std.specs.Prelude.{◌≡◌, ℕ, List, Some, IsTrue}
use Rattle.std.specs.List.{AllByRecursion}
use Rattle.formula_core.specs.declared.ty.Ty.{Ty}
use Rattle.formula_core.specs.declared.ty.Ty.TheVariants.{Truth}
use Rattle.formula_core.specs.declared.formula.Formula.{Formula}
use Rattle.formula_core.specs.Env.{HasDistinctNames, type_in}
use Rattle.formula_core.specs.Identifiers.{carriers, identifiers}
use Rattle.formula_core.specs.Types.{is_value_type}
use Rattle.formula_core.specs.Wellness.{is_well, type_of}

-- the name stands in the environment with this type
abbrev pub Stands : List (List ℕ × Ty) → List ℕ × Ty → Type 0
Stands env x = type_in env x.0 ≡ Some x.1

-- each carrier set S of the types stands there, with the type ℙ(S)
abbrev pub HasCarriers : List (List ℕ × Ty) → Type 0
HasCarriers env = AllByRecursion (λ x. AllByRecursion (Stands env) (carriers x.1)) env

-- The formula is well, and each free identifier of it and each carrier set of its types stands in the environment,
-- a carrier set S with the type ℙ(S).
pub record IsTypedIn (env : List (List ℕ × Ty)) (f : Formula) : Type 0 where
  pub well : IsTrue (is_well f)
  pub names : AllByRecursion (Stands env) (identifiers f)

-- a predicate that is typed in the environment
abbrev pub IsPredicateIn : List (List ℕ × Ty) → Formula → Type 0
IsPredicateIn env f = IsTypedIn env f × (type_of f ≡ Truth)

-- each name stands there once, no type has the sort of predicates in it, and each carrier set of the types stands there
pub record IsGoodEnv (env : List (List ℕ × Ty)) : Type 0 where
  pub names : HasDistinctNames env
  pub types : AllByRecursion (λ x. IsTrue (is_value_type x.1)) env
  pub carriers : HasCarriers env
