use Rattle.formula_parse.proofs.Readers.{decided}
use Rattle.math_action.proofs.Place.{reads_actions}
use Rattle.math_action.proofs.laws.action_or_fault.Goals as goal

pub returns : goal.returns
returns c = decided reads_actions
