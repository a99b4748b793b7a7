use Rattle.type_action.proofs.Standing.{actions_stand}
use Rattle.type_action.proofs.laws.typed_actions_stand.Goals as goal

pub returns : goal.returns
returns c = actions_stand
