use Rattle.core_steps.proofs.Rebuilt.{discharged_derived}
use Rattle.core_steps.proofs.laws.discharged_is_derived.Goals as goal

pub returns : goal.returns
returns c = discharged_derived
