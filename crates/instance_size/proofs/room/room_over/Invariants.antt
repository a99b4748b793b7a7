use Rattle.std.proofs.Common.{◌≡◌, take}
use Rattle.instance_size.specs.Private.{room_over}
use Rattle.instance_size.proofs.room.room_over.Given as goal

abbrev pub invariant-loop-formula : goal.invariant-loop-formula
invariant-loop-formula l = l.room ≡ room_over l.fn.room (take l.formula-index l.formulas)
