use Rattle.std.proofs.Common.{◌≡◌, length}
use Rattle.math_tokens.specs.Texts.{blank_length}
use Rattle.session_lines.specs.Words.{after_blanks}
use Rattle.session_lines.proofs.words.after_blanks.Given as goal

abbrev pub invariant-loop-blank : goal.invariant-loop-blank
invariant-loop-blank l = record {
  same : after_blanks l.rest ≡ after_blanks l.line;
  blank : l.blank ≡ blank_length l.rest;
}

abbrev pub decreases-loop-blank : goal.decreases-loop-blank
decreases-loop-blank l = length l.rest
