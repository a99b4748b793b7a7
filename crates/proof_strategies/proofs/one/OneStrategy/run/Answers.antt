use Rattle.proof_strategies.proofs.Alone.{alone_applies, alone_rules}
use Rattle.proof_strategies.proofs.one.OneStrategy.run.Goals as goal

pub returns-in-Ok-clause-applies : goal.returns-in-Ok-clause-applies
returns-in-Ok-clause-applies c = alone_applies c.in-Ok.rule c.args.sequent.now c.alone.result c.in-Ok.ensures.fits c.alone.ensures

pub returns-in-Ok-clause-rules : goal.returns-in-Ok-clause-rules
returns-in-Ok-clause-rules c = alone_rules c.in-Ok.rule c.args._budget c.alone.result c.requires.least c.alone.ensures
