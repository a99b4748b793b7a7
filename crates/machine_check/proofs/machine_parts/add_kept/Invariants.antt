use Rattle.std.proofs.Common.{◌≡◌, ◌++◌, map, take}
use Rattle.std.specs.List.{filter}
use Rattle.check_rules.specs.Visible.{entries}
use Rattle.model_core.specs.Borrowed.{has}
use Rattle.context_check.specs.Views.{placed}
use Rattle.machine_check.proofs.machine_parts.add_kept.Given as goal

abbrev pub invariant-loop-variable : goal.invariant-loop-variable
invariant-loop-variable l = l.all.items ≡ l.initial.all.items ++ filter (λ e. has l.kept e.0) (entries (map placed (take l.variable-index l.variables)))
