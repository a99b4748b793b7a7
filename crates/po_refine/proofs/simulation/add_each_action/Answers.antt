use Rattle.po_rules.specs.Rows.{simulation_row}
use Rattle.po_machine.specs.Shared.{view, parts_in}
use Rattle.po_machine.proofs.Gathering.{next_gathered}
use Rattle.po_refine.proofs.simulation.add_each_action.Goals as goal

pub loop-action-preserved : goal.loop-action-preserved
loop-action-preserved c =
    let p = c.args.parts.now in
    next_gathered (simulation_row p.machine.now p.event.now (parts_in p)) c.args.actions.now c.loop-action.action-index c.action-item.result
    (view c.loop-action.out) (view c.add_simulation_row.new.out) _ c.loop-action-test.true c.action-item.is c.loop-action.invariant c.in_ok-add_simulation_row.ensures
