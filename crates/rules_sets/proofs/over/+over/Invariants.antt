use Rattle.std.proofs.Common.{◌≡◌, ◌++◌, take, map}
use Rattle.rule_table.specs.Rewriting.{replaced_over}
use Rattle.rules_sets.proofs.over.+over.Given as goal

abbrev pub invariant-add_all_replaced_over-loop-item : goal.invariant-add_all_replaced_over-loop-item
invariant-add_all_replaced_over-loop-item l = l.out.items ≡ l.initial.out.items ++ map (replaced_over l.z l.x) (take l.item-index l.items)
