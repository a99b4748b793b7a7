use Rattle.formula_parse.proofs.Readers.{one_value}
use Rattle.math_action.proofs.Place.{reads_actions}
use Rattle.math_action.proofs.laws.one_action.Goals as goal

pub returns : goal.returns
returns c = one_value reads_actions
