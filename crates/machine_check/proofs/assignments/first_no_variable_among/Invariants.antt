use Rattle.std.proofs.Common.{◌≡◌, map, take}
use Rattle.formula_core.specs.Formulas.{joined}
use Rattle.model_core.specs.Faults.{first_by_place}
use Rattle.context_check.specs.Texts.{mark_of}
use Rattle.model_core.specs.Borrowed.{has}
use Rattle.machine_check.specs.PrivateEvents.{no_variable_at}
use Rattle.machine_check.proofs.assignments.first_no_variable_among.Given as goal

abbrev pub invariant-loop-mark : goal.invariant-loop-mark
invariant-loop-mark l = l.first ≡ first_by_place (joined (map (no_variable_at l.component (has l.variables)) (map mark_of (take l.mark-index l.targets))))
