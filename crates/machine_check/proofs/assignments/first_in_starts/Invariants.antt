use Rattle.std.proofs.Common.{◌≡◌, map, take}
use Rattle.formula_core.specs.Formulas.{joined}
use Rattle.model_core.specs.Faults.{first_by_place}
use Rattle.check_rules.specs.Contexts.{names_of}
use Rattle.model_core.specs.Borrowed.{has}
use Rattle.machine_check.specs.PrivateEvents.{both_of, bad_start_in}
use Rattle.machine_check.proofs.assignments.first_in_starts.Given as goal

abbrev pub invariant-loop-start : goal.invariant-loop-start
invariant-loop-start l = l.first ≡ first_by_place (joined (map (bad_start_in l.component (names_of l.own) (has l.variables)) (map both_of (take l.start-index l.starts))))
