-- The typings of a written formula.
use Rattle.std.specs.Prelude.{◌≡◌, ◌≢◌, ℕ, if◌then◌else◌, List, [], ◌∷◌, ◌++◌, length, Option, Some, None, is_some, IsTrue}
use Rattle.formula_core.specs.declared.ty.Ty.{Ty}
use Rattle.formula_core.specs.declared.ty.Ty.TheVariants as ty
use Rattle.formula_core.specs.declared.formula.Formula.{Formula}
use Rattle.formula_core.specs.declared.raw.Raw.{Raw}
use Rattle.formula_core.specs.Types.{is_value_type}
use Rattle.formula_core.specs.Env.{type_in}
use Rattle.formula_core.specs.Formulas.{free_of}
use Rattle.type_formula.specs.Bare.{Bare}
use Rattle.type_formula.specs.CoreForms.{core_form}
use Rattle.type_formula.specs.Scopes.{Scope}
use Rattle.type_formula.specs.Typings.{Types}

-- names with the types at their places
abbrev pub paired : List (List ℕ) → List Ty → Scope Ty
paired (x ∷ xs) (t ∷ ts) = (x, t) ∷ paired xs ts
paired _ _ = []

abbrev pub AreValueTypes : List Ty → Type 0
AreValueTypes [] = Unit {0}
AreValueTypes (t ∷ ts) = IsTrue (is_value_type t) × AreValueTypes ts

-- the expected type, or any type of values where none is expected
abbrev pub IsExpected : Option Ty → Ty → Type 0
IsExpected (Some u) t = t ≡ u
IsExpected None t = IsTrue (is_value_type t)

-- The formula may be typed as `f`, of the expected type, where each wanted name has one type of values. A name of the environment has its type there.
abbrev pub IsTypedAs : List (List ℕ × Ty) → List (List ℕ) → Bare → Option Ty → Formula → Type 0
IsTypedAs env wanted b expected f =
    (ts : List Ty) × AreValueTypes ts × (length ts ≡ length wanted)
    × (t : Ty) × IsExpected expected t × Types env [] (env ++ paired wanted ts) b f t

-- an environment with one more name, if it occurs and was not there yet
abbrev pub with_typed_name : List (List ℕ × Ty) → List ℕ → Option Ty → List (List ℕ × Ty)
with_typed_name env x None = env
with_typed_name env x (Some t) = if is_some (type_in env x) then env else (env ++ (x, t) ∷ [])

-- the environment with those of the names that occur in the formula, in their order
abbrev pub with_names_typed : List (List ℕ × Ty) → List (List ℕ) → Formula → List (List ℕ × Ty)
with_names_typed env [] f = env
with_names_typed env (x ∷ xs) f = with_names_typed (with_typed_name env x (type_in (free_of f) x)) xs f

abbrev pub IsTyping : List (List ℕ × Ty) → List (List ℕ) → Raw → Formula → List (List ℕ × Ty) → Type 0
IsTyping env wanted raw f new_env = IsTypedAs env wanted (core_form raw) (Some ty.Truth) f × (new_env ≡ with_names_typed env wanted f)

-- there is this typing and no other
pub record IsTheTyping (env : List (List ℕ × Ty)) (wanted : List (List ℕ)) (raw : Raw) (f : Formula) (new_env : List (List ℕ × Ty)) : Type 0 where
  pub typing : IsTyping env wanted raw f new_env
  pub only : (other : Formula) (other_env : List (List ℕ × Ty)) → IsTyping env wanted raw other other_env → (other ≡ f) × (other_env ≡ new_env)

abbrev pub HasNoTyping : List (List ℕ × Ty) → List (List ℕ) → Raw → Type 0
HasNoTyping env wanted raw = (f : Formula) (new_env : List (List ℕ × Ty)) → IsTyping env wanted raw f new_env → ⊥

pub record HasTwoTypings (env : List (List ℕ × Ty)) (wanted : List (List ℕ)) (raw : Raw) : Type 0 where
  pub one : Formula
  pub two : Formula
  pub first : IsTyping env wanted raw one (with_names_typed env wanted one)
  pub second : IsTyping env wanted raw two (with_names_typed env wanted two)
  pub apart : one ≢ two

-- the bare formula may be typed so, and not otherwise
pub record IsTheFormula (env : List (List ℕ × Ty)) (wanted : List (List ℕ)) (b : Bare) (expected : Option Ty) (f : Formula) : Type 0 where
  pub typed : IsTypedAs env wanted b expected f
  pub only : (other : Formula) → IsTypedAs env wanted b expected other → other ≡ f

abbrev pub HasNoFormula : List (List ℕ × Ty) → List (List ℕ) → Bare → Option Ty → Type 0
HasNoFormula env wanted b expected = (f : Formula) → IsTypedAs env wanted b expected f → ⊥

pub record HasTwoFormulas (env : List (List ℕ × Ty)) (wanted : List (List ℕ)) (b : Bare) (expected : Option Ty) : Type 0 where
  pub one : Formula
  pub two : Formula
  pub first : IsTypedAs env wanted b expected one
  pub second : IsTypedAs env wanted b expected two
  pub apart : one ≢ two
