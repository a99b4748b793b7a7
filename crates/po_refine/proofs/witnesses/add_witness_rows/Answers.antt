use Rattle.po_rules.specs.Rows.{witness_row}
use Rattle.po_machine.specs.Shared.{view, parts_in}
use Rattle.po_machine.proofs.Gathering.{next_gathered}
use Rattle.po_refine.proofs.witnesses.add_witness_rows.Goals as goal

pub loop-witness-preserved : goal.loop-witness-preserved
loop-witness-preserved c =
    next_gathered (witness_row (parts_in c.args.parts.now)) c.deref-witness-items.result.now c.loop-witness.witness-index c.witness-item.result
    (view c.loop-witness.out) (view c.add_witness_row.new.out) _ c.loop-witness-test.true c.witness-item.is c.loop-witness.invariant c.in_ok-add_witness_row.ensures
