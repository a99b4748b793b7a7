use Rattle.strategy_core.proofs.Closed.{good_found}
use Rattle.strategy_core.proofs.auto.searched.Goals as goal

pub returns-clause-good : goal.returns-clause-good
returns-clause-good c = good_found c.args.sequent.now c.args.budget c.requires.most c.proof_within.result c.proof_within.ensures.rules c.proof_within.ensures.derives
