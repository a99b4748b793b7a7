use Rattle.std.proofs.Common.{◌≡◌, map, take}
use Rattle.formula_core.specs.Formulas.{joined}
use Rattle.model_core.specs.Faults.{first_by_place}
use Rattle.machine_check.specs.PrivateEvents.{both_of, assigned_twice_in}
use Rattle.machine_check.proofs.assignments.first_assigned_twice.Given as goal

abbrev pub invariant-loop-event : goal.invariant-loop-event
invariant-loop-event l = l.first ≡ first_by_place (joined (map (assigned_twice_in l.component) (map both_of (take l.event-index l.events))))
