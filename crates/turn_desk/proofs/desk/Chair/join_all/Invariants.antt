use Rattle.std.proofs.Common.{◌≡◌, ◌≤◌, length, take}
use Rattle.turn_desk.specs.Log.{HasSeen}
use Rattle.turn_desk.specs.Chairs.{IsSameFirst, HasJoined}
use Rattle.turn_desk.proofs.desk.Chair.join_all.Given as goal

abbrev pub invariant-loop-chair : goal.invariant-loop-chair
invariant-loop-chair g l = IsSameFirst l.initial.self l.self × (length l.chairs.items ≤ length l.fn.chairs.items) × (l.chairs.items ≡ take (length l.chairs.items) l.fn.chairs.items) × HasJoined g.V.Kept.chair_of l.self l.fn.chairs.items (length l.chairs.items) × HasSeen g.V.Kept.chair_of 0 l.initial.self.seen l.self.seen

abbrev pub decreases-loop-chair : goal.decreases-loop-chair
decreases-loop-chair g l = length l.chairs.items
