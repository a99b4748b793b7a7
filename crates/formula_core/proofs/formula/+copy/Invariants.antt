use Rattle.std.proofs.Common.{◌≡◌, ◌++◌, take}
use Rattle.formula_core.proofs.formula.+copy.Given as goal

abbrev pub invariant-copy_all-loop-item : goal.invariant-copy_all-loop-item
invariant-copy_all-loop-item l = l.out.items ≡ l.initial.out.items ++ take l.item-index l.items
