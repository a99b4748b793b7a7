use Rattle.std.proofs.Common.{◌≡◌, ◌-◌, ◌^◌, min, sum, map, take}
use Rattle.formula_core.specs.Sizes.{formula_nodes}
use Rattle.formula_core.proofs.+count.Given as goal

abbrev pub invariant-size::nodes_of_all-loop-item : goal.invariant-size::nodes_of_all-loop-item
invariant-size::nodes_of_all-loop-item l = l.total ≡ min (sum (map formula_nodes (take l.item-index l.items))) (2 ^ 64 - 1)
