use Rattle.std.proofs.Common.{◌≡◌, ◌++◌, map, take}
use Rattle.context_check.proofs.copies.add_for_each.Given as goal

abbrev pub invariant-loop-item : goal.invariant-loop-item
invariant-loop-item g l = l.names.items ≡ l.initial.names.items ++ map (λ x. l.name) (take l._item-index l.items)
