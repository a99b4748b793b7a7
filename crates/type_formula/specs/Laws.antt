-- Formulas with one typing are typed in the environment with the names that they add.
use Rattle.std.specs.Prelude.{ℕ, List, Option, Some, None, IsTrue}
use Rattle.std.specs.List.{AllByRecursion}
use Rattle.formula_core.specs.declared.ty.Ty.{Ty}
use Rattle.formula_core.specs.declared.formula.Formula.{Formula}
use Rattle.formula_core.specs.declared.raw.Raw.{Raw}
use Rattle.formula_core.specs.Identifiers.{carriers}
use Rattle.formula_core.specs.Typed.{Stands, HasCarriers, IsTypedIn, IsPredicateIn}
use Rattle.formula_core.specs.Types.{is_value_type}
use Rattle.type_formula.specs.Answers.{with_names_typed, IsTheFormula, IsTheTyping}
use Rattle.type_formula.specs.Bare.{Bare}

-- the carrier sets of the expected type stand in the environment
abbrev pub IsExpectedOver : List (List ℕ × Ty) → Option Ty → Type 0
IsExpectedOver env None = Unit {0}
IsExpectedOver env (Some t) = AllByRecursion (Stands env) (carriers t)

-- each name has a type of values
abbrev pub HasValues : List (List ℕ × Ty) → Type 0
HasValues env = AllByRecursion (λ x. IsTrue (is_value_type x.1)) env

-- The formula is typed in the environment with the names that it adds, which again has the carrier sets of its types, and types of values.
pub record StandsAfter (env : List (List ℕ × Ty)) (wanted : List (List ℕ)) (f : Formula) : Type 0 where
  pub typed : IsTypedIn (with_names_typed env wanted f) f
  pub carriers : HasCarriers (with_names_typed env wanted f)
  pub values : HasValues env → HasValues (with_names_typed env wanted f)

abbrev pub TypedFormulasStand : Type 0
TypedFormulasStand =
    (env : List (List ℕ × Ty)) (wanted : List (List ℕ)) (b : Bare) (expected : Option Ty) (f : Formula) →
    IsTheFormula env wanted b expected f → HasCarriers env → IsExpectedOver env expected → StandsAfter env wanted f

-- The predicate is typed in the environment after it, which again has the carrier sets of its types, and types of values.
pub record IsStanding (env next : List (List ℕ × Ty)) (f : Formula) : Type 0 where
  pub typed : IsPredicateIn next f
  pub carriers : HasCarriers next
  pub values : HasValues env → HasValues next

abbrev pub TypedPredicatesStand : Type 0
TypedPredicatesStand =
    (env : List (List ℕ × Ty)) (wanted : List (List ℕ)) (raw : Raw) (f : Formula) (next : List (List ℕ × Ty)) →
    IsTheTyping env wanted raw f next → HasCarriers env → IsStanding env next f
