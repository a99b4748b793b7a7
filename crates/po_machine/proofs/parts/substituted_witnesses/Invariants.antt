use Rattle.std.proofs.Common.{◌≡◌, map, take}
use Rattle.po_machine.specs.Private.{substituted_witness}
use Rattle.po_machine.proofs.parts.substituted_witnesses.Given as goal

abbrev pub invariant-loop-witness : goal.invariant-loop-witness
invariant-loop-witness l = l.out.items ≡ map (substituted_witness l.pairs) (take l.witness-index l.witnesses)
