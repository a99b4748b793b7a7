use Rattle.std.proofs.Common.{◌≡◌, ◌++◌, not, take}
use Rattle.std.specs.List.{filter}
use Rattle.check_rules.specs.Contexts.{names_of}
use Rattle.model_core.specs.Borrowed.{has}
use Rattle.machine_check.proofs.machine_parts.add_new.Given as goal

abbrev pub invariant-loop-variable : goal.invariant-loop-variable
invariant-loop-variable l = l.names.items ≡ l.initial.names.items ++ filter (λ n. not (has l.kept n)) (names_of (take l.variable-index l.variables))
