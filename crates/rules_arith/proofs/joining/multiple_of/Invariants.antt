use Rattle.std.proofs.Common.{◌≡◌, drop}
use Rattle.rule_table.specs.Linear.{multiple_of}
use Rattle.rules_arith.proofs.joining.multiple_of.Given as goal

abbrev pub invariant-loop-atom : goal.invariant-loop-atom
invariant-loop-atom l = multiple_of l.atoms l.f ≡ multiple_of (drop l.atom-index l.atoms) l.f
