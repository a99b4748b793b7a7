use Rattle.std.proofs.Common.{sym, subst}
use Rattle.component_text.specs.Machines.{either}
use Rattle.component_text.specs.PrivateReading.{Takes}
use Rattle.component_text.proofs.Marks.{either_first, either_second}
use Rattle.component_text.proofs.cursor.Cursor.take_either.Goals as goal

pub returns-then-take_word : goal.returns-then-take_word
returns-then-take_word c =
    subst (λ b. Takes (either c.args.one.now c.args.other.now) c.args.self.now b c.take_word.new.self) (sym c.if-take_word.true)
    (either_first c.args.one.now c.args.other.now c.args.self.now c.take_word.new.self (rw c.if-take_word.true at c.take_word.ensures))

pub returns-else-take_word : goal.returns-else-take_word
returns-else-take_word c =
    either_second c.args.one.now c.args.other.now c.args.self.now c.take_word.new.self c.take_word-else-take_word.new.self c.take_word-else-take_word.result
    (rw c.if-take_word.false at c.take_word.ensures) c.take_word-else-take_word.ensures
