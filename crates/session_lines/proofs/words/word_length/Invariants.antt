-- no blank begins before here
use Rattle.std.proofs.Common.{◌≡◌, ◌+◌, drop}
use Rattle.session_lines.specs.Words.{length_to_blank}
use Rattle.session_lines.proofs.words.word_length.Given as goal

abbrev pub invariant-loop-at : goal.invariant-loop-at
invariant-loop-at l = l.at + length_to_blank (drop l.at l.line) ≡ length_to_blank l.line
