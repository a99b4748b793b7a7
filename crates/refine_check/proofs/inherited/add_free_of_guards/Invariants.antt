use Rattle.std.proofs.Common.{◌≡◌, ◌++◌, map, take}
use Rattle.formula_core.specs.Formulas.{joined}
use Rattle.check_rules.specs.Assignments.{free_names_of}
use Rattle.refine_check.proofs.inherited.add_free_of_guards.Given as goal

abbrev pub invariant-loop-guard : goal.invariant-loop-guard
invariant-loop-guard l = l.found.items ≡ l.initial.found.items ++ joined (map (λ g. free_names_of g.formula) (take l.guard-index l.guards))
