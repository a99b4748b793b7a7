use Rattle.component_text.proofs.Machines.{with_reads}
use Rattle.component_text.proofs.machine.with.Goals as goal

pub returns-then-take_word : goal.returns-then-take_word
returns-then-take_word c = with_reads c.args.cursor.now c.take_word.new.self c.witnesses.new.cursor c.witnesses.result (rw c.if-take_word.true at c.take_word.ensures) c.witnesses.ensures
