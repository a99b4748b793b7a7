use Rattle.component_text.proofs.Components.{ends_or_more}
use Rattle.component_text.proofs.parse.ends.Goals as goal

pub returns-then-take_word : goal.returns-then-take_word
returns-then-take_word c = ends_or_more c.args.cursor.now c.take_word.new.self c.is_at_end.result (rw c.if-take_word.true at c.take_word.ensures) c.is_at_end.ensures
