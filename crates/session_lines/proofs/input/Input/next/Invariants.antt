use Rattle.std.proofs.Common.{length}
use Rattle.session_lines.specs.Reading.{IsSameReading}
use Rattle.session_lines.proofs.input.Input.next.Given as goal

abbrev pub invariant-loop-found : goal.invariant-loop-found
invariant-loop-found l = IsSameReading l.initial.self l.self

abbrev pub decreases-loop-found : goal.decreases-loop-found
decreases-loop-found l = length l.self.left
