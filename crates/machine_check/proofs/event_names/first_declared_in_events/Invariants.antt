use Rattle.std.proofs.Common.{◌≡◌, map, take}
use Rattle.formula_core.specs.Formulas.{joined}
use Rattle.model_core.specs.Faults.{first_by_place}
use Rattle.model_core.specs.Borrowed.{has}
use Rattle.machine_check.specs.PrivateNames.{declared_in}
use Rattle.machine_check.proofs.event_names.first_declared_in_events.Given as goal

abbrev pub invariant-loop-event : goal.invariant-loop-event
invariant-loop-event l = l.first ≡ first_by_place (joined (map (declared_in l.component l.events (has l.known)) (map (λ e. e) (take l.event-index l.written))))
