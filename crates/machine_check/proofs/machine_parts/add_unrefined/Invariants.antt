use Rattle.std.proofs.Common.{◌≡◌, ◌++◌, map, not, take}
use Rattle.std.specs.List.{filter}
use Rattle.model_core.specs.Borrowed.{has}
use Rattle.machine_check.proofs.machine_parts.add_unrefined.Given as goal

abbrev pub invariant-loop-event : goal.invariant-loop-event
invariant-loop-event l = l.names.items ≡ l.initial.names.items ++ filter (λ n. not (has l.refined n)) (map (λ e. e.name) (take l.event-index l.events))
