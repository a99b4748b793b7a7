use Rattle.component_text.proofs.Machines.{events_read}
use Rattle.component_text.proofs.machine.events.Goals as goal

pub returns-then-take_word : goal.returns-then-take_word
returns-then-take_word c = events_read c.args.cursor.now c.take_word.new.self c.event_list.new.cursor c.event_list.result (rw c.if-take_word.true at c.take_word.ensures) c.event_list.ensures
