use Rattle.std.proofs.Common.{take}
use Rattle.session_lines.specs.Private.{HasNoFeed}
use Rattle.session_lines.proofs.lines.first_feed.Given as goal

abbrev pub invariant-loop-at : goal.invariant-loop-at
invariant-loop-at l = HasNoFeed (take l.at l.bytes)
