use Rattle.machine_check.proofs.Targets.{targets_more}
use Rattle.machine_check.proofs.assignments.targets_in.Goals as goal

pub loop-step-preserved : goal.loop-step-preserved
loop-step-preserved c =
    targets_more c.args.event.now.actions c.items-step-items.result.now c.loop-step.step-index c.step-item.result _ _ c.targets_of.result.now c.items-step-items.ensures c.loop-step-test.true c.step-item.is
    c.loop-step.invariant c.targets_of.ensures c.in_ok-add_refs.ensures
