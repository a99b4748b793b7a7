use Rattle.std.proofs.Common.{◌≡◌, drop}
use Rattle.model_core.specs.Each.{for_each}
use Rattle.po_rules.specs.Gathering.{gathered}
use Rattle.po_rules.specs.Rows.{witness_row}
use Rattle.po_machine.specs.Shared.{view, parts_in}
use Rattle.po_refine.proofs.witnesses.add_witness_rows.Given as goal

abbrev pub invariant-loop-witness : goal.invariant-loop-witness
invariant-loop-witness l =
    gathered (view l.out) (for_each (witness_row (parts_in l.parts)) (drop l.witness-index l.witness-items))
    ≡ gathered (view l.initial.out) (for_each (witness_row (parts_in l.parts)) l.witness-items)
