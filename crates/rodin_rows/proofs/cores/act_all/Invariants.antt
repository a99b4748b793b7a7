use Rattle.std.proofs.Common.{◌≤◌, ◌+◌}
use Rattle.std.specs.FinMap.{len}
use Rattle.rodin_rows.proofs.cores.act_all.Given as goal

abbrev pub invariant-loop-at : goal.invariant-loop-at
invariant-loop-at g l = (l.core.next ≤ l.at + 1) × (len l.core.durable.proofs ≤ l.at)
