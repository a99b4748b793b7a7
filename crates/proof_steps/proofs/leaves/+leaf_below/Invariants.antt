use Rattle.std.proofs.Common.{length}
use Rattle.proof_steps.proofs.leaves.+leaf_below.Given as goal

abbrev pub decreases-leaf_below : goal.decreases-leaf_below
decreases-leaf_below l = length l.path.now
