-- How large a formula is.
use Rattle.std.specs.Prelude.{ℕ, ◌-◌, ◌^◌, min}
use Rattle.formula_core.specs.declared.Formula.{Formula}
use Rattle.formula_core.specs.Sizes.{formula_nodes, formula_height}
use Rattle.condition_size.specs.declared.size.Size.{Size}
use Rattle.well_defined.specs.Connectives.{is_top}

-- a number up to the greatest `u64`
abbrev pub clamped : ℕ → ℕ
clamped n = min n (2 ^ 64 - 1)

-- the nodes and the height of a formula, and whether it is ⊤
abbrev pub size_of : Formula → Size
size_of f = record { nodes = clamped (formula_nodes f); height = clamped (formula_height f); top = is_top f }
