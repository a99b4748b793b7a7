use Rattle.std.proofs.Common.{◌≡◌, take}
use Rattle.sequent_core.proofs.tree.+copy.Given as goal

abbrev pub invariant-copy_trees-loop-item : goal.invariant-copy_trees-loop-item
invariant-copy_trees-loop-item l = l.copies.items ≡ take l.item-index l.items
