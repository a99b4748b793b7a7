-- What a typing of a formula is.
use Rattle.std.specs.Prelude.{◌≡◌, ℕ, true, List, [], ◌∷◌, Some, IsTrue}
use Rattle.formula_core.specs.declared.ty.Ty.{Ty}
use Rattle.formula_core.specs.declared.ty.Ty.TheVariants as ty
use Rattle.formula_core.specs.declared.formula.Formula.{Formula}
use Rattle.formula_core.specs.declared.formula.Formula.TheVariants as formula
use Rattle.formula_core.specs.Types.{is_value_type}
use Rattle.formula_core.specs.Rows.{row_of}
use Rattle.formula_core.specs.Schemes.{truth, operand_schemes, result_scheme, part_schemes, binder_scheme, IsSchemeInstance}
use Rattle.formula_core.specs.Wellness.{is_natural}
use Rattle.type_formula.specs.Bare.{Bare, Bares, BareBounds, Number, Identifier, Form, Partition, Binding, Ascribed, Broken, nothing, more, unbound, plain, typed, part_count, has_names}
use Rattle.type_formula.specs.Scopes.{Scope, position_of, with_names, IsName}
use Rattle.type_formula.specs.TypeExpressions.{denoted}
use Rattle.type_formula.specs.Partition.{partition_schemes, partition_of}

-- The types of the names of a binder: that of the type expression where one is written, which is read outside of the binder, and else any type of values.
abbrev pub AreBound : List (List ℕ × Ty) → Scope Ty → BareBounds → List Ty → Type 0
AreBound env outer unbound ts = ts ≡ []
AreBound env outer (plain x names) ts = (t : Ty) × (rest : List Ty) × IsTrue (is_value_type t) × AreBound env outer names rest × (ts ≡ t ∷ rest)
AreBound env outer (typed x written names) ts = (t : Ty) × (rest : List Ty) × (denoted env outer written ≡ Some t) × AreBound env outer names rest × (ts ≡ t ∷ rest)

-- Types env bound free b f t: where the names have these types, the bare formula may be typed as this formula, of type t.
abbrev mutual
  pub Types : List (List ℕ × Ty) → Scope Ty → Scope Ty → Bare → Formula → Ty → Type 0
  Types env bound free (Number n) f t = IsTrue (is_natural n) × (f ≡ formula.Int n) × (t ≡ ty.Int)
  Types env bound free (Identifier x place) f t = IsTrue (is_value_type t) × IsName x (position_of x bound) (position_of x free) f t
  Types env bound free (Form op parts) f t =
      (fs : List Formula) × (types : List Ty) × AllTyped env bound free parts fs types
      × IsSchemeInstance (operand_schemes (row_of op) (part_count parts)) (result_scheme (row_of op)) types t × (f ≡ formula.Node op fs t)
  Types env bound free (Partition parts) f t =
      (fs : List Formula) × (types : List Ty) × AllTyped env bound free parts fs types
      × IsSchemeInstance (partition_schemes (part_count parts)) truth types t × (f ≡ partition_of fs)
  Types env bound free (Binding binder names parts) f t =
      (ts : List Ty) × AreBound env bound names ts × (has_names names ≡ true)
      × (fs : List Formula) × (types : List Ty) × AllTyped env (with_names names ts bound) free parts fs types
      × IsSchemeInstance (part_schemes binder) (binder_scheme binder) types t × (f ≡ formula.Bind binder ts fs t)
  Types env bound free (Ascribed e written) f t = (denoted env bound written ≡ Some t) × Types env bound free e f t
  Types env bound free (Broken parts) f t = ⊥

  -- each part has the type that stands at its place
  pub AllTyped : List (List ℕ × Ty) → Scope Ty → Scope Ty → Bares → List Formula → List Ty → Type 0
  AllTyped env bound free nothing fs ts = (fs ≡ []) × (ts ≡ [])
  AllTyped env bound free (more b bs) fs ts =
      (f : Formula) × (rest : List Formula) × (t : Ty) × (others : List Ty)
      × Types env bound free b f t × AllTyped env bound free bs rest others × (fs ≡ f ∷ rest) × (ts ≡ t ∷ others)
