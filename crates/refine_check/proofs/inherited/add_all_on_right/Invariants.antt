use Rattle.std.proofs.Common.{◌≡◌, ◌++◌, map, take}
use Rattle.formula_core.specs.Formulas.{joined}
use Rattle.check_rules.specs.Assignments.{names_on_right}
use Rattle.refine_check.proofs.inherited.add_all_on_right.Given as goal

abbrev pub invariant-loop-action : goal.invariant-loop-action
invariant-loop-action l = l.found.items ≡ l.initial.found.items ++ joined (map (λ a. names_on_right a.1) (take l.action-index l.actions))
