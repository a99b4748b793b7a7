use Rattle.std.proofs.Common.{◌≡◌, drop}
use Rattle.rule_table.specs.Linear.{are_multiplied}
use Rattle.rules_arith.proofs.step.are_multiplied.Given as goal

abbrev pub invariant-loop-i : goal.invariant-loop-i
invariant-loop-i l = are_multiplied (drop l.i l.hyps) (drop l.i l.multipliers) ≡ are_multiplied l.hyps l.multipliers
