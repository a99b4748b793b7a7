use Rattle.static_check.proofs.OneOutcome.{beside_one}
use Rattle.static_check.proofs.laws.one_outcome.Goals as goal

pub returns : goal.returns
returns c = beside_one
