use Rattle.component_text.specs.Marks.{is_word_mark}
use Rattle.component_text.specs.Grammar.{SomeNames}
use Rattle.component_text.proofs.Components.{section_reads, word_alone}
use Rattle.component_text.proofs.parse.some_names_behind.Goals as goal

pub returns-then-take_word : goal.returns-then-take_word
returns-then-take_word c =
    section_reads (is_word_mark c.args.word.now) SomeNames (word_alone c.args.word.now c.requires.no_variant) c.args.cursor.now c.take_word.new.self c.some_names.new.cursor c.some_names.result (rw c.if-take_word.true at c.take_word.ensures) c.some_names.ensures
