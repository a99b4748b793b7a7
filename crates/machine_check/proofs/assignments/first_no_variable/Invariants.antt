use Rattle.std.proofs.Common.{◌≡◌, map, take}
use Rattle.formula_core.specs.Formulas.{joined}
use Rattle.model_core.specs.Faults.{first_by_place}
use Rattle.model_core.specs.Borrowed.{has}
use Rattle.machine_check.specs.PrivateEvents.{both_of, no_variable_in}
use Rattle.machine_check.proofs.assignments.first_no_variable.Given as goal

abbrev pub invariant-loop-event : goal.invariant-loop-event
invariant-loop-event l = l.first ≡ first_by_place (joined (map (no_variable_in l.component (has l.variables)) (map both_of (take l.event-index l.events))))
