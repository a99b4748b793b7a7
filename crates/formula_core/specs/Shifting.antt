-- Formulas that are moved below more bound identifiers, and free identifiers that become bound.
use Rattle.std.specs.Prelude.{ℕ, ◌+◌, nat_lt, length, map, reverse, Option, Some, None, List, [], ◌∷◌, if◌then◌else◌}
use Rattle.std.specs.Option.{option_or, option_map_or}
use Rattle.formula_core.specs.declared.ty.Ty.{Ty}
use Rattle.formula_core.specs.declared.formula.Formula.{Formula, roll-Formula}
use Rattle.formula_core.specs.declared.formula.Formula.TheOpen.{Formula-F, Int, Free, Bound, Node, Bind}
use Rattle.formula_core.specs.declared.formula.Formula.TheVariants as formula
use Rattle.formula_core.specs.declared.formula.Formula.TheFolds.{fold-Formula}
use Rattle.formula_core.specs.Formulas.{same_identifier}

-- an index below `by` further identifiers, which stand outside the nearest `depth` ones
abbrev pub raised : ℕ → ℕ → ℕ → ℕ
raised by depth at = if nat_lt at depth then at else (at + by)

abbrev pub shifted_step : ℕ → Formula-F (ℕ → Formula) → ℕ → Formula
shifted_step by (Int n) depth = roll-Formula (Int n)
shifted_step by (Free name ty) depth = roll-Formula (Free name ty)
shifted_step by (Bound at ty) depth = roll-Formula (Bound (raised by depth at) ty)
shifted_step by (Node op parts ty) depth = roll-Formula (Node op (map (λ p. p depth) parts) ty)
shifted_step by (Bind binder types parts ty) depth = roll-Formula (Bind binder types (map (λ p. p (depth + length types)) parts) ty)

-- a formula below `by` further bound identifiers: each index from `depth` on is greater by as many
abbrev pub shifted : ℕ → ℕ → Formula → Formula
shifted by depth f = fold-Formula (ℕ → Formula) (shifted_step by) f depth

-- how many identifiers of a list stand after this one
abbrev pub place_from_last : List (List ℕ × Ty) → List ℕ × Ty → Option ℕ
place_from_last [] x = None
place_from_last (y ∷ ys) x = option_or (place_from_last ys x) (if same_identifier y x then Some (length ys) else None)

abbrev pub abstracted_step : List (List ℕ × Ty) → Formula-F (ℕ → Formula) → ℕ → Formula
abstracted_step ids (Int n) depth = roll-Formula (Int n)
abstracted_step ids (Free name ty) depth = option_map_or (λ i. roll-Formula (Bound (depth + i) ty)) (place_from_last ids (name, ty)) (roll-Formula (Free name ty))
abstracted_step ids (Bound at ty) depth = roll-Formula (Bound (raised (length ids) depth at) ty)
abstracted_step ids (Node op parts ty) depth = roll-Formula (Node op (map (λ p. p depth) parts) ty)
abstracted_step ids (Bind binder types parts ty) depth = roll-Formula (Bind binder types (map (λ p. p (depth + length types)) parts) ty)

-- a formula as the body of a binder of these identifiers: each free place of one is its index, and the indices of outer identifiers are greater by their number
abbrev pub abstracted : List (List ℕ × Ty) → ℕ → Formula → Formula
abstracted ids depth f = fold-Formula (ℕ → Formula) (abstracted_step ids) f depth

-- the types of the identifiers, each at its index
abbrev pub scope_types : List (List ℕ × Ty) → List Ty
scope_types ids = reverse (map (λ x. x.1) ids)

-- the identifiers as terms
abbrev pub as_terms : List (List ℕ × Ty) → List Formula
as_terms ids = map (λ x. formula.Free x.0 x.1) ids
