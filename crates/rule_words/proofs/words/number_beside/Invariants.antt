-- the word is not among the rows so far
use Rattle.std.proofs.Common.{◌≡◌, drop}
use Rattle.rule_words.specs.RuleWords.{number_beside}
use Rattle.rule_words.specs.Private.{rows}
use Rattle.rule_words.proofs.words.number_beside.Given as goal

abbrev pub invariant-loop-text : goal.invariant-loop-text
invariant-loop-text l = number_beside (rows (drop l.text-index l.table)) l.word ≡ number_beside (rows l.table) l.word
