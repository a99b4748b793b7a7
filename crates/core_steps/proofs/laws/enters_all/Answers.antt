use Rattle.core_steps.specs.Outcomes.{StepOutcome}
use Rattle.core_steps.proofs.Sorts.{sort_of, entered_after}
use Rattle.core_steps.proofs.laws.enters_all.Goals as goal

pub returns : goal.returns
returns c = λ s event r n t x. let z : StepOutcome = record { reply = r; entry = n; new = t } in entered_after s z (sort_of s z event x)
