use Rattle.core_steps.specs.Outcomes.{StepOutcome}
use Rattle.core_steps.proofs.Rebuilt.{rebuilt_beside}
use Rattle.core_steps.proofs.laws.tells_the_rebuilt.Goals as goal

pub returns : goal.returns
returns c = λ s event r n t x. let z : StepOutcome = record { reply = r; entry = n; new = t } in rebuilt_beside s z x.0 x.1 event x.2
