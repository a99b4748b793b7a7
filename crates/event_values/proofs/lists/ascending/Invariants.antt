use Rattle.std.proofs.Common.{◌≡◌, length}
use Rattle.event_values.specs.Order.{ascending}
use Rattle.event_values.proofs.Insertion.{put_all}
use Rattle.event_values.proofs.lists.ascending.Given as goal

abbrev pub invariant-loop-v : goal.invariant-loop-v
invariant-loop-v l = put_all l.left.items l.set.items ≡ ascending l.initial.left.items

abbrev pub decreases-loop-v : goal.decreases-loop-v
decreases-loop-v l = length l.left.items
