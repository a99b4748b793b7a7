use Rattle.std.proofs.Common.{◌∙◌, ap, sym}
use Rattle.component_text.specs.Marks.{is_word_mark, is_at}
use Rattle.component_text.proofs.Marks.{took_one}
use Rattle.component_text.proofs.cursor.Cursor.take_word.Goals as goal

pub returns-then-is_at_word : goal.returns-then-is_at_word
returns-then-is_at_word c =
    rw (← c.self.view_is) (took_one (is_word_mark c.args.word.now) c.self.inside.text.now c.self.inside.rest.now (ap (is_at (is_word_mark c.args.word.now)) c.self.view_is ∙ sym c.is_at_word.ensures ∙ c.if-is_at_word.true))
