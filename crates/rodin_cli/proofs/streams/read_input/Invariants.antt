use Rattle.std.proofs.Common.{◌≤◌, ◌-◌, length}
use Rattle.std.specs.Io.KnownBytes.{Consumes}
use Rattle.rodin_cli.proofs.streams.read_input.Given as goal

abbrev pub invariant-loop-buffer : goal.invariant-loop-buffer
invariant-loop-buffer g l =
    Consumes (g.I.Source.left l.initial.input) (g.I.Source.left l.input) l.bytes.items
    × (length l.bytes.items ≤ 67108865) × (g.I.Source.faults l.initial.input ≤ g.I.Source.faults l.input)

abbrev pub decreases-loop-buffer : goal.decreases-loop-buffer
decreases-loop-buffer g l = 67108865 - length l.bytes.items
