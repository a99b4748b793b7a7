use Rattle.std.proofs.Common.{◌≡◌, drop}
use Rattle.std.specs.List.{list_all}
use Rattle.rule_table.specs.Linear.{is_zero}
use Rattle.rules_arith.proofs.joining.are_absent.Given as goal

abbrev pub invariant-loop-atom : goal.invariant-loop-atom
invariant-loop-atom l = list_all (λ atom. is_zero atom.1) l.atoms ≡ list_all (λ atom. is_zero atom.1) (drop l.atom-index l.atoms)
