-- the word is not among the rows so far
use Rattle.std.proofs.Common.{◌≡◌, drop}
use Rattle.session_words.specs.Says.{verb_beside}
use Rattle.session_words.specs.Private.{verb_rows}
use Rattle.session_words.proofs.verbs.verb_beside.Given as goal

abbrev pub invariant-loop-text : goal.invariant-loop-text
invariant-loop-text l = verb_beside (verb_rows (drop l.text-index l.table)) l.word ≡ verb_beside (verb_rows l.table) l.word
