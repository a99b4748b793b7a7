use Rattle.component_text.proofs.Machines.{refines_none, refines_read}
use Rattle.component_text.proofs.machine.refines.Goals as goal

pub returns : goal.returns
returns c = refines_read c.args.cursor.now c.take_word.new.self c.name.new.self c.in-Some.name (rw c.if-not-take_word.false at c.take_word.ensures) (rw c.in-Some.is at c.in_ok-name.ensures)

pub returns-in_default : goal.returns-in_default
returns-in_default c = refines_none c.args.cursor.now c.take_word.new.self c.name.new.self (rw c.if-not-take_word.false at c.take_word.ensures) (rw c.in_default.is at c.in_ok-name.ensures)
