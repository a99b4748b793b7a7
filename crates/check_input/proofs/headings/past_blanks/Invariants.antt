use Rattle.std.proofs.Common.{◌≡◌, length}
use Rattle.math_tokens.specs.Texts.{blank_length}
use Rattle.check_input.specs.Headings.{past_blanks}
use Rattle.check_input.proofs.headings.past_blanks.Given as goal

abbrev pub invariant-loop-blank : goal.invariant-loop-blank
invariant-loop-blank l = record {
  same : past_blanks l.rest ≡ past_blanks l.bytes;
  blank : l.blank ≡ blank_length l.rest;
}

abbrev pub decreases-loop-blank : goal.decreases-loop-blank
decreases-loop-blank l = length l.rest
