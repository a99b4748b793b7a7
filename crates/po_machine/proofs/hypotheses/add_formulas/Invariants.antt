use Rattle.std.proofs.Common.{◌≡◌, ◌++◌, take}
use Rattle.po_machine.specs.Private.{referenced}
use Rattle.po_machine.proofs.hypotheses.add_formulas.Given as goal

abbrev pub invariant-loop-formula : goal.invariant-loop-formula
invariant-loop-formula l = referenced l.found.items ≡ referenced l.initial.found.items ++ take l.formula-index l.more
