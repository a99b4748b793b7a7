-- The first name of a formula that is unknown.
use Rattle.std.specs.Prelude.{ℕ, nat_lt, Bool, ◌||◌, if◌then◌else◌, List, [], ◌∷◌, ◌++◌, fold, Option, Some, None, is_some, bytes_eq}
use Rattle.std.specs.List.{list_any}
use Rattle.formula_core.specs.declared.ty.Ty.{Ty}
use Rattle.formula_core.specs.declared.raw.Raw.{Raw}
use Rattle.formula_core.specs.Env.{type_in}
use Rattle.type_formula.specs.Bare.{Bare, Bares, BareBounds, Number, Identifier, Form, Partition, Binding, Ascribed, Broken, nothing, more, unbound, plain, typed}
use Rattle.type_formula.specs.CoreForms.{core_form}

abbrev pub bound_names_in : BareBounds → List (List ℕ)
bound_names_in unbound = []
bound_names_in (plain x names) = x ∷ bound_names_in names
bound_names_in (typed x t names) = x ∷ bound_names_in names

-- a name is bound, in the environment, or wanted
abbrev pub is_known : List (List ℕ × Ty) → List (List ℕ) → List (List ℕ) → List ℕ → Bool
is_known env wanted bound x = list_any (bytes_eq x) bound || (is_some (type_in env x) || list_any (bytes_eq x) wanted)

-- the names that are unknown, with their places
abbrev mutual
  pub unknowns : List (List ℕ × Ty) → List (List ℕ) → List (List ℕ) → Bare → List (List ℕ × ℕ)
  unknowns env wanted bound (Number n) = []
  unknowns env wanted bound (Identifier x place) = if is_known env wanted bound x then [] else ((x, place) ∷ [])
  unknowns env wanted bound (Form op parts) = all_unknowns env wanted bound parts
  unknowns env wanted bound (Partition parts) = all_unknowns env wanted bound parts
  unknowns env wanted bound (Binding binder names parts) = type_unknowns env wanted bound names ++ all_unknowns env wanted (bound ++ bound_names_in names) parts
  unknowns env wanted bound (Ascribed e t) = unknowns env wanted bound e ++ unknowns env wanted bound t
  unknowns env wanted bound (Broken parts) = all_unknowns env wanted bound parts

  pub all_unknowns : List (List ℕ × Ty) → List (List ℕ) → List (List ℕ) → Bares → List (List ℕ × ℕ)
  all_unknowns env wanted bound nothing = []
  all_unknowns env wanted bound (more b bs) = unknowns env wanted bound b ++ all_unknowns env wanted bound bs

  pub type_unknowns : List (List ℕ × Ty) → List (List ℕ) → List (List ℕ) → BareBounds → List (List ℕ × ℕ)
  type_unknowns env wanted bound unbound = []
  type_unknowns env wanted bound (plain x names) = type_unknowns env wanted bound names
  type_unknowns env wanted bound (typed x t names) = unknowns env wanted bound t ++ type_unknowns env wanted bound names

-- of two names the one with the lower place
abbrev pub earlier_name : Option (List ℕ × ℕ) → List ℕ × ℕ → Option (List ℕ × ℕ)
earlier_name None q = Some q
earlier_name (Some p) q = if nat_lt q.1 p.1 then Some q else Some p

-- the name at the lowest place
abbrev pub first_name_by_place : List (List ℕ × ℕ) → Option (List ℕ × ℕ)
first_name_by_place names = fold earlier_name None names

-- the first name of a written formula that is unknown
abbrev pub unknown_in : List (List ℕ × Ty) → List (List ℕ) → Raw → Option (List ℕ × ℕ)
unknown_in env wanted raw = first_name_by_place (unknowns env wanted [] (core_form raw))
