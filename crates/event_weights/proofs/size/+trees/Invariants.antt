use Rattle.std.proofs.Common.{◌≡◌, ◌+◌, ◌-◌, ◌^◌, ◌<◌, min, map, drop, sum}
use Rattle.event_weights.specs.Private.{tree_size}
use Rattle.event_weights.proofs.size.+trees.Given as goal

abbrev pub invariant-size_of_trees-loop-tree : goal.invariant-size_of_trees-loop-tree
invariant-size_of_trees-loop-tree l = (min (l.total + sum (map tree_size (drop l.tree-index l.trees))) (2 ^ 64 - 1) ≡ min (sum (map tree_size l.trees)) (2 ^ 64 - 1)) × (l.total < 2 ^ 64)
