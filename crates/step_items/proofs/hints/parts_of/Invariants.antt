-- the parts of the items so far
use Rattle.std.proofs.Common.{take}
use Rattle.step_items.specs.Private.{AreParts}
use Rattle.step_items.proofs.hints.parts_of.Given as goal

abbrev pub invariant-loop-item : goal.invariant-loop-item
invariant-loop-item l = AreParts (take l.item-index l.items) l.parts
