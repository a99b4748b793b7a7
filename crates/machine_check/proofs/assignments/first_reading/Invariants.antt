use Rattle.std.proofs.Common.{◌≡◌, map}
use Rattle.formula_core.specs.Formulas.{joined}
use Rattle.model_core.specs.Faults.{first_by_place}
use Rattle.model_core.specs.Borrowed.{has}
use Rattle.machine_check.specs.PrivateEvents.{reads_at}
use Rattle.machine_check.proofs.assignments.first_reading.Given as goal

abbrev pub invariant-loop-step : goal.invariant-loop-step
invariant-loop-step l = l.first ≡ first_by_place (joined (map (reads_at l.component (has l.variables)) (map (λ p. (p.0.now, p.1.now)) l.yielded)))
