use Rattle.std.proofs.Common.{◌≡◌, drop, fold}
use Rattle.std.specs.Prelude.{filter}
use Rattle.rule_table.specs.Rules.{with_name, sorted_by_name}
use Rattle.rule_kernel.specs.Private.{is_other}
use Rattle.rule_kernel.proofs.names.in_order_without.Given as goal

abbrev pub invariant-loop-identifier : goal.invariant-loop-identifier
invariant-loop-identifier l = fold with_name l.sorted.entries (filter (is_other l.added.entries) (drop l.identifier-index l.names)) ≡ sorted_by_name (filter (is_other l.added.entries) l.names)
