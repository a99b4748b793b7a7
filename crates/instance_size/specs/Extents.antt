-- How large a formula is, and whether there is room for it.
use Rattle.std.specs.Prelude.{ℕ, ◌≤◌, List, map, max, min}
use Rattle.formula_core.specs.declared.Formula.{Formula}
use Rattle.formula_core.specs.Sizes.{formula_nodes, formula_height, greatest}
use Rattle.condition_size.specs.Sizes.{clamped}
use Rattle.instance_size.specs.declared.extent.Extent.{Extent}

-- the nodes and the height of a formula
abbrev pub extent_of : Formula → Extent
extent_of f = record { nodes = clamped (formula_nodes f); height = clamped (formula_height f) }

-- a formula with no more nodes and levels than there is room for
pub record HasRoom (room : Extent) (f : Formula) : Type 0 where
  pub nodes : clamped (formula_nodes f) ≤ room.nodes
  pub height : clamped (formula_height f) ≤ room.height

-- the nodes of the largest of some formulas, and the height of the highest
abbrev pub room_for : List Formula → Extent
room_for fs = record { nodes = clamped (greatest (map formula_nodes fs)); height = clamped (greatest (map formula_height fs)) }
