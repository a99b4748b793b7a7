use Rattle.std.proofs.Common.{◌≡◌, ◌+◌, ◌-◌, ◌^◌, ◌<◌, min, map, drop, sum}
use Rattle.event_weights.specs.Weights.{raw_nodes}
use Rattle.event_weights.specs.Private.{bound_nodes}
use Rattle.event_weights.proofs.nodes.+nodes.Given as goal

abbrev pub invariant-nodes_of_all-loop-part : goal.invariant-nodes_of_all-loop-part
invariant-nodes_of_all-loop-part l = (min (l.total + sum (map raw_nodes (drop l.part-index l.parts))) (2 ^ 64 - 1) ≡ min (sum (map raw_nodes l.parts)) (2 ^ 64 - 1)) × (l.total < 2 ^ 64)

abbrev pub invariant-nodes_of_bound-loop-name : goal.invariant-nodes_of_bound-loop-name
invariant-nodes_of_bound-loop-name l = (min (l.total + sum (map bound_nodes (drop l.name-index l.bound))) (2 ^ 64 - 1) ≡ min (sum (map bound_nodes l.bound)) (2 ^ 64 - 1)) × (l.total < 2 ^ 64)
