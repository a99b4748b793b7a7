use Rattle.po_machine.specs.Shared.{view, parts_in}
use Rattle.po_machine.proofs.Gathering.{next_gathered}
use Rattle.po_refine.specs.Private.{strengthening_row}
use Rattle.po_refine.proofs.strengthening.add_each_guard.Goals as goal

pub loop-guard-preserved : goal.loop-guard-preserved
loop-guard-preserved c =
    next_gathered (strengthening_row (parts_in c.args.parts.now)) c.args.guards.now c.loop-guard.guard-index c.guard-item.result
    (view c.loop-guard.out) (view c.add_strengthening_row.new.out) _ c.loop-guard-test.true c.guard-item.is c.loop-guard.invariant c.in_ok-add_strengthening_row.ensures
