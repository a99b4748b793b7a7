use Rattle.std.proofs.Common.{◌≡◌, map, take}
use Rattle.machine_check.proofs.parts.event_names.Given as goal

abbrev pub invariant-loop-event : goal.invariant-loop-event
invariant-loop-event l = l.names.items ≡ map (λ x. x.now.name) (take l.event-index l.events)
