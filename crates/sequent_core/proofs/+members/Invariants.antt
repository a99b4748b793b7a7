use Rattle.std.proofs.Common.{◌≡◌, ◌+◌, ◌-◌, ◌^◌, ◌<◌, min, map, drop}
use Rattle.sequent_core.specs.Members.{counted, tree_members}
use Rattle.sequent_core.proofs.+members.Given as goal

abbrev pub invariant-members::members_of_trees-loop-tree : goal.invariant-members::members_of_trees-loop-tree
invariant-members::members_of_trees-loop-tree l = (min (l.total + counted (map tree_members (drop l.tree-index l.trees))) (2 ^ 64 - 1) ≡ min (counted (map tree_members l.trees)) (2 ^ 64 - 1)) × (l.total < 2 ^ 64)
