use Rattle.std.proofs.Common.{◌≡◌, drop}
use Rattle.rule_table.specs.Linear.{is_met}
use Rattle.rules_arith.proofs.joining.is_met.Given as goal

abbrev pub invariant-loop-atom : goal.invariant-loop-atom
invariant-loop-atom l = is_met l.atoms l.f ≡ is_met (drop l.atom-index l.atoms) l.f
