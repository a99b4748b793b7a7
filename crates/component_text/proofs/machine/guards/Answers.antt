use Rattle.component_text.proofs.Machines.{guards_read}
use Rattle.component_text.proofs.machine.guards.Goals as goal

pub returns-then-take_either : goal.returns-then-take_either
returns-then-take_either c = guards_read c.args.cursor.now c.take_either.new.self c.lines.new.cursor c.lines.result (rw c.if-take_either.true at c.take_either.ensures) c.lines.ensures
