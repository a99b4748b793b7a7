use Rattle.build_core.proofs.Rounds.{one_verdict}
use Rattle.build_core.proofs.laws.one_verdict.Goals as goal

pub returns : goal.returns
returns c = one_verdict
