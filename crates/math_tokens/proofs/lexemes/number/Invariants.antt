-- the value so far
use Rattle.std.proofs.Common.{◌≡◌, ◌<◌, ◌^◌, drop}
use Rattle.math_tokens.specs.Lexemes.{value_of, value_after}
use Rattle.math_tokens.proofs.lexemes.number.Given as goal

abbrev pub invariant-loop-digit : goal.invariant-loop-digit
invariant-loop-digit l = record { low : l.value < 2 ^ 127; so_far : value_after l.value (drop l.digit-index l.digits) ≡ value_of l.digits }
