use Rattle.std.proofs.Common.{◌≡◌, ◌++◌, map, take}
use Rattle.po_machine.specs.Private.{referenced}
use Rattle.po_machine.proofs.hypotheses.add_witnesses.Given as goal

abbrev pub invariant-loop-witness : goal.invariant-loop-witness
invariant-loop-witness l = referenced l.found.items ≡ referenced l.initial.found.items ++ map (λ w. w.1) (take l.witness-index l.witnesses)
