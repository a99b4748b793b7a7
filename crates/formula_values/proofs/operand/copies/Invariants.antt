use Rattle.std.proofs.Common.{◌≡◌, map, take}
use Rattle.formula_values.specs.Private.{held}
use Rattle.formula_values.proofs.operand.copies.Given as goal

abbrev pub invariant-loop-operand : goal.invariant-loop-operand
invariant-loop-operand l = l.found.items ≡ map held (take l.operand-index l.operands)
