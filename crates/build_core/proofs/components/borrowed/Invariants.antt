use Rattle.std.proofs.Common.{◌≡◌, map, take}
use Rattle.std.specs.Arc.{arc_value}
use Rattle.build_core.proofs.components.borrowed.Given as goal

abbrev pub invariant-loop-component : goal.invariant-loop-component
invariant-loop-component l = map (λ x. x.now) l.all.items ≡ map arc_value (take l.component-index l.shared)
