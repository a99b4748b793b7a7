use Rattle.build_core.proofs.Distinct.{distinct_obligations}
use Rattle.build_core.proofs.laws.distinct_obligations.Goals as goal

pub returns : goal.returns
returns c = distinct_obligations
