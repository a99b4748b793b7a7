use Rattle.std.proofs.Common.{◌≤◌, []}
use Rattle.session_streams.specs.Private.{left_to_read}
use Rattle.session_streams.specs.Reads.{ReadsOn}
use Rattle.session_streams.proofs.reading.next_line.Given as goal

abbrev pub invariant-loop-line : goal.invariant-loop-line
invariant-loop-line g l =
    ReadsOn (g.I.Source.left l.initial.input) l.initial.reader (g.I.Source.left l.input) l.reader []
    × (g.I.Source.faults l.initial.input ≤ g.I.Source.faults l.input)

abbrev pub decreases-loop-line : goal.decreases-loop-line
decreases-loop-line g l = left_to_read l.reader
