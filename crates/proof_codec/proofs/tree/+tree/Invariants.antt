use Rattle.std.proofs.Common.{◌+◌, ◌*◌}
use Rattle.proof_codec.specs.Private.{IsReadAs, AreItems, items_bytes, IsTreeWithin}
use Rattle.proof_codec.specs.ProofTrees.{tree_bytes}
use Rattle.proof_codec.proofs.tree.+tree.Given as goal

-- two calls lead from a tree to its children
abbrev pub decreases-tree_within : goal.decreases-tree_within
decreases-tree_within l = l.depth * 2

abbrev pub decreases-children_of : goal.decreases-children_of
decreases-children_of l = l.depth * 2 + 1

abbrev pub invariant-children_of-loop : goal.invariant-children_of-loop
invariant-children_of-loop l = IsReadAs (AreItems (IsTreeWithin l.depth) l.counter) (items_bytes tree_bytes) l.initial.from l.children.items l.from
