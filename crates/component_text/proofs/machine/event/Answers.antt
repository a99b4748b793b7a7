use Rattle.component_text.proofs.Machines.{ordinary_reads, convergent_reads, anticipated_reads, plain_reads}
use Rattle.component_text.proofs.machine.event.Goals as goal

pub returns-then-take_word : goal.returns-then-take_word
returns-then-take_word c = ordinary_reads c.args.cursor.now c.take_word.new.self c.event_body.new.cursor c.event_body.result (rw c.if-take_word.true at c.take_word.ensures) c.event_body.ensures

pub returns-then-take_word-2 : goal.returns-then-take_word-2
returns-then-take_word-2 c =
    convergent_reads c.args.cursor.now c.take_word.new.self (rw c.if-take_word.false at c.take_word.ensures)
    c.take_word-else-take_word.new.self c.event_body-then-take_word-2.new.cursor c.event_body-then-take_word-2.result (rw c.if-take_word-2.true at c.take_word-else-take_word.ensures) c.event_body-then-take_word-2.ensures

pub returns-then-take_word-3 : goal.returns-then-take_word-3
returns-then-take_word-3 c =
    anticipated_reads c.args.cursor.now c.take_word.new.self (rw c.if-take_word.false at c.take_word.ensures) c.take_word-else-take_word.new.self (rw c.if-take_word-2.false at c.take_word-else-take_word.ensures)
    c.take_word-else-take_word-2.new.self c.event_body-then-take_word-3.new.cursor c.event_body-then-take_word-3.result (rw c.if-take_word-3.true at c.take_word-else-take_word-2.ensures) c.event_body-then-take_word-3.ensures

pub returns-else-take_word-3 : goal.returns-else-take_word-3
returns-else-take_word-3 c =
    plain_reads c.args.cursor.now c.take_word.new.self (rw c.if-take_word.false at c.take_word.ensures) c.take_word-else-take_word.new.self (rw c.if-take_word-2.false at c.take_word-else-take_word.ensures)
    c.take_word-else-take_word-2.new.self c.event_body-else-take_word-3.new.cursor c.event_body-else-take_word-3.result (rw c.if-take_word-3.false at c.take_word-else-take_word-2.ensures) c.event_body-else-take_word-3.ensures
