use Rattle.std.proofs.Common.{◌≡◌, ◌++◌, string_bytes, drop}
use Rattle.component_print.specs.Printed.{event_texts}
use Rattle.component_print.proofs.machine.print_events.Given as goal

abbrev pub invariant-loop-event : goal.invariant-loop-event
invariant-loop-event l = string_bytes l.out ++ event_texts (drop l.event-index l.events) ≡ string_bytes l.initial.out ++ event_texts l.events
