use Rattle.std.proofs.Common.{◌≡◌, ◌+◌, ◌≤◌, drop}
use Rattle.event_values.specs.Reading.{piece_end}
use Rattle.event_values.proofs.reading.piece_end.Given as goal

abbrev pub invariant-loop-i : goal.invariant-loop-i
invariant-loop-i l = record { low : l.depth ≤ l.i; so_far : piece_end 0 l.text ≡ l.i + piece_end l.depth (drop l.i l.text) }
