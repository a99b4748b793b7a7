use Rattle.context_check.proofs.Repeated.{one_more}
use Rattle.context_check.proofs.declarations.put.Goals as goal

pub returns : goal.returns
returns c = one_more c.args.text c.args.texts.now c.insert.new.self c.in_ok-insert.ensures.updates
