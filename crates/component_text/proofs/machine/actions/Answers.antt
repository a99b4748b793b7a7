use Rattle.component_text.proofs.Machines.{actions_read}
use Rattle.component_text.proofs.machine.actions.Goals as goal

pub returns-then-take_either : goal.returns-then-take_either
returns-then-take_either c = actions_read c.args.cursor.now c.take_either.new.self c.steps.new.cursor c.steps.result (rw c.if-take_either.true at c.take_either.ensures) c.steps.ensures
