use Rattle.std.proofs.Common.{◌≡◌, ◌-◌, ◌^◌, min, sum, map, take}
use Rattle.event_values.specs.Order.{value_nodes}
use Rattle.event_values.proofs.value.+nodes.Given as goal

abbrev pub invariant-nodes_of_all-loop-item : goal.invariant-nodes_of_all-loop-item
invariant-nodes_of_all-loop-item l = l.total ≡ min (sum (map value_nodes (take l.item-index l.items))) (2 ^ 64 - 1)
