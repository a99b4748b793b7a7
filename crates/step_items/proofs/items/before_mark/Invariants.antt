-- no double semicolon begins before here
use Rattle.std.proofs.Common.{◌≡◌, ◌+◌, drop}
use Rattle.step_items.specs.Private.{before_mark}
use Rattle.step_items.proofs.items.before_mark.Given as goal

abbrev pub invariant-loop-at : goal.invariant-loop-at
invariant-loop-at l = l.at + before_mark (drop l.at l.bytes) ≡ before_mark l.bytes
