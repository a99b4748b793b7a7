use Rattle.std.proofs.Common.{◌≡◌, take, map, reverse}
use Rattle.outside.specs.DiskCalls.{by_side, contents, seen}
use Rattle.outside.specs.DiskStop.{left_after}
use Rattle.outside.proofs.recorded.Recorded.left_on.Given as goal

abbrev pub invariant-loop-entry : goal.invariant-loop-entry
invariant-loop-entry l =
    let first = by_side l.fn.self.first_left.items l.fn.self.first_right.items in
    let calls = reverse (map (seen l.fn.self.log.written.items) (take l.entry-index l.entry-items)) in
    record {
      side : l.replay.side ≡ l.fn.side;
      fill : l.replay.fill ≡ l.fn.fill;
      long : l.replay.long ≡ l.fn.long;
      read : l.replay.read.items ≡ contents first calls l.fn.side;
      left : l.replay.left.items ≡ left_after l.fn.fill l.fn.long first calls l.fn.side;
    }
