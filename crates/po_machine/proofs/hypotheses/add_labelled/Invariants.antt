use Rattle.std.proofs.Common.{◌≡◌, ◌++◌, take}
use Rattle.po_rules.specs.Parts.{formulas}
use Rattle.po_machine.specs.Private.{referenced}
use Rattle.po_machine.proofs.hypotheses.add_labelled.Given as goal

abbrev pub invariant-loop-one : goal.invariant-loop-one
invariant-loop-one l = referenced l.found.items ≡ referenced l.initial.found.items ++ formulas (take l.one-index l.labelled)
