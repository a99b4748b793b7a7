use Rattle.std.proofs.Common.{◌≡◌, ◌++◌, map, take}
use Rattle.formula_core.specs.Formulas.{joined}
use Rattle.check_rules.specs.Assignments.{free_names_of}
use Rattle.refine_check.proofs.inherited.add_free_of_values.Given as goal

abbrev pub invariant-loop-value : goal.invariant-loop-value
invariant-loop-value l = l.found.items ≡ l.initial.found.items ++ joined (map (λ p. free_names_of p.1) (take l.value-index l.values))
