use Rattle.po_rules.specs.Rows.{invariant_row}
use Rattle.po_machine.specs.Shared.{parts_in, view}
use Rattle.po_machine.proofs.Gathering.{next_gathered}
use Rattle.po_machine.proofs.invariants.add_invariant_rows.Goals as goal

pub loop-invariant-preserved : goal.loop-invariant-preserved
loop-invariant-preserved c =
    next_gathered (invariant_row c.args.parts.now.event.now (parts_in c.args.parts.now)) c.items_from-invariant-items.result.now c.loop-invariant.invariant-index c.invariant-item.result
    (view c.loop-invariant.out) (view c.add_invariant_row.new.out) _ c.loop-invariant-test.true c.invariant-item.is c.loop-invariant.invariant c.in_ok-add_invariant_row.ensures
