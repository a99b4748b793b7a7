-- No steps are few.
use Rattle.std.proofs.Common.{ℕ, [], arith}
use Rattle.std.specs.List.{IsDistinct}
use Rattle.build_core.specs.Moved.{HasFewSteps}
use Rattle.build_core.specs.Projects.{Project}

pub no_steps : (old new : Project) (steps : ℕ) → HasFewSteps old new steps steps
unfolding IsDistinct
no_steps old new steps = ([], tt, tt, omega arith)
