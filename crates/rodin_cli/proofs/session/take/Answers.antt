use Rattle.rodin_cli.proofs.Typed.{took}
use Rattle.rodin_cli.proofs.session.take.Goals as goal

pub returns-in-Ok-clause-done : goal.returns-in-Ok-clause-done
returns-in-Ok-clause-done g c = took c.args.session.now c.perform.new.session c.in-Ok.reply c.ticket_of.result c.in-Ok.ensures.done c.ticket_of.ensures
