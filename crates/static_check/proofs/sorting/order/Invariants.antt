use Rattle.std.proofs.Common.{map}
use Rattle.static_check.specs.PrivateSorting.{component_of, waiting_for}
use Rattle.static_check.proofs.Turns.{IsSorting, left_of}
use Rattle.static_check.proofs.sorting.order.Given as goal

abbrev pub invariant-loop-waiting : goal.invariant-loop-waiting
invariant-loop-waiting l = IsSorting (map (λ x. x.now) l.components) l.sorted.items (waiting_for l.names) (map component_of l.pending.items)

abbrev pub decreases-loop-waiting : goal.decreases-loop-waiting
decreases-loop-waiting l = left_of (map (λ x. x.now) l.components) l.sorted.items (map component_of l.pending.items)
