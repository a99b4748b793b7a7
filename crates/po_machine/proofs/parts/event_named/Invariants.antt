use Rattle.std.proofs.Common.{◌≡◌, bytes_eq, drop}
use Rattle.std.specs.List.{find}
use Rattle.po_machine.proofs.parts.event_named.Given as goal

abbrev pub invariant-loop-event : goal.invariant-loop-event
invariant-loop-event l = find (λ x. bytes_eq l.name x.name) (drop l.event-index l.events) ≡ find (λ x. bytes_eq l.name x.name) l.events
