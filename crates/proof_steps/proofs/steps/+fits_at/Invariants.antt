use Rattle.std.proofs.Common.{length}
use Rattle.proof_steps.proofs.steps.+fits_at.Given as goal

abbrev pub decreases-fits_at : goal.decreases-fits_at
decreases-fits_at l = length l.path.now
