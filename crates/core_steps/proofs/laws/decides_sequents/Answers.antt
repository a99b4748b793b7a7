use Rattle.core_steps.proofs.Decided.{same_sequent}
use Rattle.core_steps.proofs.laws.decides_sequents.Goals as goal

pub returns : goal.returns
returns c = same_sequent
