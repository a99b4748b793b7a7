use Rattle.check_input.proofs.Inputs.{has_one_input}
use Rattle.check_input.proofs.laws.one_input.Goals as goal

pub returns : goal.returns
returns c = has_one_input
