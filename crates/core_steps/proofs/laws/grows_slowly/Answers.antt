use Rattle.core_steps.specs.Outcomes.{StepOutcome}
use Rattle.core_steps.proofs.Sorts.{sort_of}
use Rattle.core_steps.proofs.Growing.{slowly}
use Rattle.core_steps.proofs.laws.grows_slowly.Goals as goal

pub returns : goal.returns
returns c = λ s event r n t x. let z : StepOutcome = record { reply = r; entry = n; new = t } in slowly s z (sort_of s z event x)
