use Rattle.std.proofs.Common.{◌≡◌, ◌++◌, ◌&&◌, map, not, take}
use Rattle.std.specs.List.{filter}
use Rattle.check_rules.specs.Visible.{entries, names}
use Rattle.model_core.specs.Borrowed.{has}
use Rattle.context_check.specs.Views.{placed}
use Rattle.machine_check.proofs.machine_parts.add_lost.Given as goal

abbrev pub invariant-loop-variable : goal.invariant-loop-variable
invariant-loop-variable l = l.found.items ≡ l.initial.found.items ++ filter (λ n. has l.kept n && not (has l.own n)) (names (entries (map placed (take l.variable-index l.variables))))
