use Rattle.std.proofs.Common.{◌≡◌, take}
use Rattle.po_machine.specs.Private.{referenced}
use Rattle.po_machine.proofs.needed.copied.Given as goal

abbrev pub invariant-loop-formula : goal.invariant-loop-formula
invariant-loop-formula l = l.copies.items ≡ referenced (take l.formula-index l.formulas)
