-- What is known of the variables' types.
use Rattle.std.specs.Prelude.{◌≡◌, ◌≢◌, ℕ, zero, suc, List, [], ◌∷◌, Option, Some, None}
use Rattle.formula_core.specs.declared.ty.Ty.{Ty}
use Rattle.formula_core.specs.declared.ty.Ty.TheVariants as ty
use Rattle.unification.specs.Terms.{Open, integers, booleans, predicates, carrier, variable, powerset, product}
use Rattle.unification.specs.Solutions.{Equality, IsAssignment, Solves}

-- a variable's type, where it is in the list
abbrev pub type_at : List (Option Ty) → ℕ → Option Ty
type_at [] i = None
type_at (t ∷ ts) zero = t
type_at (t ∷ ts) (suc i) = type_at ts i

-- two solutions of the equations
pub record TwoSolutions (es : List Equality) : Type 0 where
  pub one : ℕ → Ty
  pub two : ℕ → Ty
  pub one_assigns : IsAssignment one
  pub two_assigns : IsAssignment two
  pub one_solves : Solves one es
  pub two_solves : Solves two es

-- Where the list has a type, all solutions give that one, and two solutions differ wherever it has none.
pub record AreKnown (es : List Equality) (ts : List (Option Ty)) : Type 0 where
  pub given : (v : ℕ → Ty) → IsAssignment v → Solves v es → (i : ℕ) (t : Ty) → type_at ts i ≡ Some t → v i ≡ t
  pub solutions : TwoSolutions es
  pub differ : (i : ℕ) → type_at ts i ≡ None → solutions.one i ≢ solutions.two i

abbrev pub powerset_of : Option Ty → Option Ty
powerset_of None = None
powerset_of (Some a) = Some (ty.Pow a)

abbrev pub product_of : Option Ty → Option Ty → Option Ty
product_of (Some a) (Some b) = Some (ty.Pair a b)
product_of _ _ = None

-- the type of a term, where all its variables have one
abbrev pub closed_type : List (Option Ty) → Open → Option Ty
closed_type ts integers = Some ty.Int
closed_type ts booleans = Some ty.Bool
closed_type ts predicates = Some ty.Truth
closed_type ts (carrier name) = Some (ty.Given name)
closed_type ts (variable i) = type_at ts i
closed_type ts (powerset a) = powerset_of (closed_type ts a)
closed_type ts (product a b) = product_of (closed_type ts a) (closed_type ts b)
