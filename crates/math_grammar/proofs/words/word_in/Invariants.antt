-- the word is not among the entries so far
use Rattle.std.proofs.Common.{◌≡◌, drop}
use Rattle.math_grammar.specs.Tokens.{word_in}
use Rattle.math_grammar.specs.Private.{table_entries}
use Rattle.math_grammar.proofs.words.word_in.Given as goal

abbrev pub invariant-loop-text : goal.invariant-loop-text
invariant-loop-text l = word_in (table_entries (drop l.text-index l.table)) l.word ≡ word_in (table_entries l.table) l.word
