use Rattle.std.proofs.Common.{◌≡◌, ℕ, List, map, take}
use Rattle.formula_core.specs.Formulas.{joined}
use Rattle.model_core.specs.Each.{is_among}
use Rattle.model_core.specs.Borrowed.{has}
use Rattle.machine_check.proofs.machine_parts.refined_names.Given as goal

abbrev pub invariant-loop-event : goal.invariant-loop-event
invariant-loop-event l = (x : List ℕ) → has l.texts x ≡ is_among (joined (map (λ e. e.refines) (take l.event-index l.events))) x
