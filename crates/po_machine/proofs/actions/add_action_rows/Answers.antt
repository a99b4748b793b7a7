use Rattle.po_rules.specs.Rows.{action_row}
use Rattle.po_machine.specs.Shared.{parts_in, view}
use Rattle.po_machine.proofs.Gathering.{next_gathered}
use Rattle.po_machine.proofs.actions.add_action_rows.Goals as goal

pub loop-action-preserved : goal.loop-action-preserved
loop-action-preserved c =
    next_gathered (action_row (parts_in c.args.parts.now)) c.items_from-action-items.result.now c.loop-action.action-index c.action-item.result
    (view c.loop-action.out) (view c.add_action_row.new.out) _ c.loop-action-test.true c.action-item.is c.loop-action.invariant c.in_ok-add_action_row.ensures
