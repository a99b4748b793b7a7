-- Type expressions: `ℤ`, `BOOL`, a carrier set, `ℙ(T)`, `T × T` and `T ↔ T`.
use Rattle.std.specs.Prelude.{ℕ, Bool, false, if◌then◌else◌, List, [], ◌∷◌, Option, Some, None}
use Rattle.std.specs.Option.{option_map_or}
use Rattle.formula_core.specs.declared.ty.Ty.{Ty}
use Rattle.formula_core.specs.declared.ty.Ty.TheVariants as ty
use Rattle.formula_core.specs.declared.op.Op.{Op}
use Rattle.formula_core.specs.declared.op.Op.TheVariants as op
use Rattle.formula_core.specs.Types.{same_type}
use Rattle.formula_core.specs.Env.{type_in}
use Rattle.type_formula.specs.Bare.{Bare, Bares, Number, Identifier, Form, Partition, Binding, Ascribed, Broken, nothing, more}
use Rattle.type_formula.specs.Scopes.{Scope, has_name}

-- an environment has the name with the type of a carrier set
abbrev pub is_carrier : List (List ℕ × Ty) → List ℕ → Bool
is_carrier env x = option_map_or (same_type (ty.Pow (ty.Given x))) (type_in env x) false

abbrev pub power_of : Option Ty → Option Ty
power_of (Some t) = Some (ty.Pow t)
power_of None = None

abbrev pub pair_of : Option Ty → Option Ty → Option Ty
pair_of (Some t) (Some u) = Some (ty.Pair t u)
pair_of _ _ = None

abbrev pub denoted_form : Op → List (Option Ty) → Option Ty
denoted_form op.Integers [] = Some ty.Int
denoted_form op.Booleans [] = Some ty.Bool
denoted_form op.PowerSet (t ∷ []) = power_of t
denoted_form op.Product (t ∷ u ∷ []) = pair_of t u
denoted_form op.Relations (t ∷ u ∷ []) = power_of (pair_of t u)
denoted_form _ _ = None

-- The type whose values are the members of a type expression. A bound name hides a carrier set.
abbrev mutual
  pub denoted : {A : Type 0} → List (List ℕ × Ty) → Scope A → Bare → Option Ty
  denoted env bound (Identifier x place) = if has_name x bound then None else (if is_carrier env x then Some (ty.Given x) else None)
  denoted env bound (Form o parts) = denoted_form o (all_denoted env bound parts)
  denoted env bound (Number n) = None
  denoted env bound (Partition parts) = None
  denoted env bound (Binding b names parts) = None
  denoted env bound (Ascribed e t) = None
  denoted env bound (Broken parts) = None

  pub all_denoted : {A : Type 0} → List (List ℕ × Ty) → Scope A → Bares → List (Option Ty)
  all_denoted env bound nothing = []
  all_denoted env bound (more b bs) = denoted env bound b ∷ all_denoted env bound bs
