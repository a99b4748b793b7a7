use Rattle.std.proofs.Common.{◌≡◌, ◌++◌, map, take}
use Rattle.build_core.proofs.gathering.add_unrefined.Given as goal

abbrev pub invariant-loop-event : goal.invariant-loop-event
invariant-loop-event l = l.warnings.items ≡ l.initial.warnings.items ++ map (λ event. (l.machine.name, event)) (take l.event-index l.machine.unrefined)
