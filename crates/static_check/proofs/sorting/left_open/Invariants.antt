use Rattle.std.proofs.Common.{◌≡◌, map, take}
use Rattle.static_check.specs.PrivateSorting.{left_open, waiting_for}
use Rattle.static_check.proofs.sorting.left_open.Given as goal

abbrev pub invariant-loop-component : goal.invariant-loop-component
invariant-loop-component l = l.left.items ≡ left_open (map (λ x. x.now) (take l.component-index l.components)) (waiting_for l.names)
