use Rattle.rodin_cli.proofs.session.finish.Goals as goal

pub returns-in-Ok-clause-done : goal.returns-in-Ok-clause-done
returns-in-Ok-clause-done g c = (c.in-Ok.reply, c.in-Ok.ensures.done)
