use Rattle.std.proofs.Common.{◌+◌, ◌*◌, map, take}
use Rattle.std.specs.List.{AllByRecursion}
use Rattle.formula_core.specs.Sizes.{greatest}
use Rattle.proof_codec.specs.ProofTrees.{tree_bytes}
use Rattle.proof_codec.specs.Private.{HasGoodRules, IsWrittenAs, items_bytes, tree_height}
use Rattle.proof_codec.proofs.tree.+write.Given as goal

-- two calls lead from a tree to its children
abbrev pub decreases-write_tree : goal.decreases-write_tree
decreases-write_tree l = tree_height l.tree.now * 2

abbrev pub decreases-write_children : goal.decreases-write_children
decreases-write_children l = greatest (map tree_height l.children.now) * 2 + 1

abbrev pub invariant-write_children-loop-child : goal.invariant-write_children-loop-child
invariant-write_children-loop-child l = IsWrittenAs (AllByRecursion HasGoodRules) (items_bytes tree_bytes) (take l.child-index l.children) l.initial.out.items l.out.items
