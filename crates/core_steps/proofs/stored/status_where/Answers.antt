use Rattle.core_steps.proofs.Known.{settled_status}
use Rattle.core_steps.proofs.stored.status_where.Goals as goal

pub returns-then-applies : goal.returns-then-applies
returns-then-applies c = λ tree s are is. settled_status tree s c.args.facts.now.settled are.settled (is.0 c.if-applies.true)
