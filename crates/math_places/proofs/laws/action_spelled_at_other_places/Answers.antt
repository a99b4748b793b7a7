use Rattle.math_places.proofs.Actions.{action_spelled_again}
use Rattle.math_places.proofs.laws.action_spelled_at_other_places.Goals as goal

pub returns : goal.returns
returns c = action_spelled_again
