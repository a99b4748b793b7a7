use Rattle.component_text.proofs.Components.{line_reads}
use Rattle.component_text.proofs.parse.line.Goals as goal

pub returns : goal.returns
returns c = line_reads c.args.cursor.now c.take_word-theorem.new.self c.labelled.new.cursor c.take_word-theorem.result c.labelled.result c.take_word-theorem.ensures c.labelled.ensures
