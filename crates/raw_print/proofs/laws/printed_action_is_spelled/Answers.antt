use Rattle.raw_print.proofs.ActionsSpelled.{action_spelled}
use Rattle.raw_print.proofs.laws.printed_action_is_spelled.Goals as goal

pub returns : goal.returns
returns c = λ limit s a all k. action_spelled limit s a k all
