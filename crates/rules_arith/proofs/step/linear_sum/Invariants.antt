use Rattle.std.proofs.Common.{◌≡◌, drop}
use Rattle.rule_table.specs.Linear.{added, linear_sum}
use Rattle.rules_arith.proofs.step.linear_sum.Given as goal

abbrev pub invariant-loop-i : goal.invariant-loop-i
invariant-loop-i l = added l.total (drop l.i l.hyps) (drop l.i l.multipliers) ≡ linear_sum l.goal l.hyps l.multipliers
