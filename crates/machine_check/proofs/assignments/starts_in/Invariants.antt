use Rattle.std.proofs.Common.{◌≡◌, ◌++◌, map, drop}
use Rattle.std.specs.List.{filter}
use Rattle.check_rules.specs.Events.{is_initialisation}
use Rattle.machine_check.specs.PrivateEvents.{both_of}
use Rattle.machine_check.proofs.assignments.starts_in.Given as goal

abbrev pub invariant-loop-event : goal.invariant-loop-event
invariant-loop-event l = map both_of l.starts.items ++ filter (λ e. is_initialisation e.0) (map both_of (drop l.event-index l.events)) ≡ filter (λ e. is_initialisation e.0) (map both_of l.events)
