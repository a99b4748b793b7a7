use Rattle.std.proofs.Common.{◌≡◌, drop, fold}
use Rattle.rule_table.specs.Rules.{with_name}
use Rattle.rule_kernel.proofs.names.insert_all.Given as goal

abbrev pub invariant-loop-identifier : goal.invariant-loop-identifier
invariant-loop-identifier l = fold with_name l.sorted.entries (drop l.identifier-index l.names) ≡ fold with_name l.initial.sorted.entries l.names
