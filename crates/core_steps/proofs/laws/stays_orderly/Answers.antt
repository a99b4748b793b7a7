use Rattle.core_steps.specs.Outcomes.{StepOutcome}
use Rattle.core_steps.proofs.Sorts.{sort_of, orderly_after}
use Rattle.core_steps.proofs.laws.stays_orderly.Goals as goal

pub returns : goal.returns
returns c = λ s event r n t o x. let z : StepOutcome = record { reply = r; entry = n; new = t } in orderly_after s z (sort_of s z event x) o
