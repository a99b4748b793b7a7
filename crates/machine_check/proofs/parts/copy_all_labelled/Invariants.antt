use Rattle.std.proofs.Common.{◌≡◌, take}
use Rattle.machine_check.proofs.parts.copy_all_labelled.Given as goal

abbrev pub invariant-loop-item : goal.invariant-loop-item
invariant-loop-item l = l.copies.items ≡ take l.item-index l.items
