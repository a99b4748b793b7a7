use Rattle.std.proofs.Common.{◌≡◌, drop, fold}
use Rattle.rule_table.specs.Rules.{with_name, sorted_by_name}
use Rattle.proof_tree.proofs.hyp.in_order.Given as goal

abbrev pub invariant-loop-identifier : goal.invariant-loop-identifier
invariant-loop-identifier l = fold with_name l.sorted.entries (drop l.identifier-index l.names) ≡ sorted_by_name l.names
