use Rattle.readings_core.proofs.Following.{values_follow}
use Rattle.readings_core.proofs.laws.values_follow.Goals as goal

pub returns : goal.returns
returns c = values_follow
