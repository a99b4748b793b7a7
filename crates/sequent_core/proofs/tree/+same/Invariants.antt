use Rattle.std.proofs.Common.{◌≡◌, take}
use Rattle.sequent_core.proofs.tree.+same.Given as goal

abbrev pub invariant-same_trees-loop-i : goal.invariant-same_trees-loop-i
invariant-same_trees-loop-i l = take l.i l.xs ≡ take l.i l.ys
