use Rattle.std.proofs.Common.{◌≡◌, map, take}
use Rattle.static_check.specs.PrivateSorting.{component_of}
use Rattle.static_check.proofs.sorting.all_waiting.Given as goal

abbrev pub invariant-loop-component : goal.invariant-loop-component
invariant-loop-component l = map component_of l.all.items ≡ map (λ x. x.now) (take l.component-index l.components)
