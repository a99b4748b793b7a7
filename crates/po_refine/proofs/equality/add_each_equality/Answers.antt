use Rattle.po_machine.specs.Shared.{view, parts_in}
use Rattle.po_machine.proofs.Gathering.{next_gathered}
use Rattle.po_refine.specs.Private.{equality_at}
use Rattle.po_refine.proofs.equality.add_each_equality.Goals as goal

pub loop-variable-preserved : goal.loop-variable-preserved
loop-variable-preserved c =
    next_gathered (equality_at c.args.changes.now (parts_in c.args.parts.now)) c.args.variables.now c.loop-variable.variable-index c.variable-item.result
    (view c.loop-variable.out) (view c.add_equality_row.new.out) _ c.loop-variable-test.true c.variable-item.is c.loop-variable.invariant c.in_ok-add_equality_row.ensures
