-- Sizes of types and formulas.
use Rattle.std.specs.Prelude.{ℕ, ◌+◌, ◌≤◌, max, sum, map, nat_le, Bool, true, ◌&&◌, IsTrue, List, [], ◌∷◌}
use Rattle.formula_core.specs.declared.size.TheConstants.{MOST_NODES, MOST_HEIGHT, MOST_TYPE_NODES}
use Rattle.formula_core.specs.declared.ty.Ty.{Ty}
use Rattle.formula_core.specs.declared.ty.Ty.TheOpen.{Ty-F, Int as Integer, Bool as Boolean, Given, Pow, Pair, Truth}
use Rattle.formula_core.specs.declared.ty.Ty.TheFolds.{fold-Ty}
use Rattle.formula_core.specs.declared.formula.Formula.{Formula}
use Rattle.formula_core.specs.declared.formula.Formula.TheOpen.{Formula-F, Int, Free, Bound, Node, Bind}
use Rattle.formula_core.specs.declared.formula.Formula.TheFolds.{fold-Formula}

abbrev pub type_nodes_step : Ty-F ℕ → ℕ
type_nodes_step Integer = 1
type_nodes_step Boolean = 1
type_nodes_step (Given name) = 1
type_nodes_step (Pow part) = part + 1
type_nodes_step (Pair left right) = left + right + 1
type_nodes_step Truth = 1

-- the number of nodes of a type
abbrev pub type_nodes : Ty → ℕ
type_nodes = fold-Ty ℕ type_nodes_step

abbrev pub formula_nodes_step : Formula-F ℕ → ℕ
formula_nodes_step (Int n) = 1
formula_nodes_step (Free name ty) = 1
formula_nodes_step (Bound at ty) = 1
formula_nodes_step (Node op parts ty) = sum parts + 1
formula_nodes_step (Bind binder types parts ty) = sum parts + 1

-- the number of nodes of a formula
abbrev pub formula_nodes : Formula → ℕ
formula_nodes = fold-Formula ℕ formula_nodes_step

-- the greatest of some numbers, or 0
abbrev pub greatest : List ℕ → ℕ
greatest [] = 0
greatest (n ∷ ns) = max n (greatest ns)

abbrev pub formula_height_step : Formula-F ℕ → ℕ
formula_height_step (Int n) = 1
formula_height_step (Free name ty) = 1
formula_height_step (Bound at ty) = 1
formula_height_step (Node op parts ty) = greatest parts + 1
formula_height_step (Bind binder types parts ty) = greatest parts + 1

-- the height of a formula, which is 1 where it has no part
abbrev pub formula_height : Formula → ℕ
formula_height = fold-Formula ℕ formula_height_step

-- whether each of them is true
abbrev pub all_hold : List Bool → Bool
all_hold [] = true
all_hold (b ∷ bs) = b && all_hold bs

abbrev pub is_type_within : ℕ → Ty → Bool
is_type_within limit ty = nat_le (type_nodes ty) limit

abbrev pub has_types_within_step : ℕ → Formula-F Bool → Bool
has_types_within_step limit (Int n) = true
has_types_within_step limit (Free name ty) = is_type_within limit ty
has_types_within_step limit (Bound at ty) = is_type_within limit ty
has_types_within_step limit (Node op parts ty) = is_type_within limit ty && all_hold parts
has_types_within_step limit (Bind binder types parts ty) = is_type_within limit ty && all_hold (map (is_type_within limit) types) && all_hold parts

-- whether each type that stands in a formula has at most `limit` nodes
abbrev pub has_types_within : ℕ → Formula → Bool
has_types_within limit = fold-Formula Bool (has_types_within_step limit)

-- A formula has few nodes, is not high, and its types are small.
abbrev pub IsWithinLimits : Formula → Type 0
IsWithinLimits f = (formula_nodes f ≤ MOST_NODES) × (formula_height f ≤ MOST_HEIGHT) × IsTrue (has_types_within MOST_TYPE_NODES f)
