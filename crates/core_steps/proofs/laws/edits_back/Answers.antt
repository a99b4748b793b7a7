use Rattle.core_steps.proofs.Restoring.{edited_back}
use Rattle.core_steps.proofs.laws.edits_back.Goals as goal

pub returns : goal.returns
returns c = edited_back
