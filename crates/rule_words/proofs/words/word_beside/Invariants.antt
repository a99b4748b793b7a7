-- the number is not among the rows so far
use Rattle.std.proofs.Common.{◌≡◌, drop}
use Rattle.rule_words.specs.RuleWords.{word_beside}
use Rattle.rule_words.specs.Private.{rows}
use Rattle.rule_words.proofs.words.word_beside.Given as goal

abbrev pub invariant-loop-text : goal.invariant-loop-text
invariant-loop-text l = word_beside (rows (drop l.text-index l.table)) l.number ≡ word_beside (rows l.table) l.number
