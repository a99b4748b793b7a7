use Rattle.std.proofs.Common.{◌≡◌, map, take}
use Rattle.formula_core.specs.Formulas.{joined}
use Rattle.check_rules.specs.Assignments.{written_targets}
use Rattle.context_check.specs.Texts.{mark_of, ref_mark}
use Rattle.machine_check.proofs.assignments.targets_in.Given as goal

abbrev pub invariant-loop-step : goal.invariant-loop-step
invariant-loop-step l = map mark_of l.marks.items ≡ map ref_mark (joined (map (λ s. written_targets s.action) (take l.step-index l.event.actions)))
