use Rattle.std.proofs.Common.{◌≡◌, ◌++◌, take, map}
use Rattle.rule_table.specs.Linear.{linear}
use Rattle.rules_arith.proofs.form.+forms.Given as goal

abbrev pub invariant-add_forms-loop-item : goal.invariant-add_forms-loop-item
invariant-add_forms-loop-item l = l.out.items ≡ l.initial.out.items ++ map linear (take l.item-index l.items)
