use Rattle.model_core.specs.Borrowed.{has}
use Rattle.model_core.specs.Each.{is_among}
use Rattle.check_rules.specs.Assignments.{assigned}
use Rattle.machine_check.proofs.Assigned.{none_yet, texts_more}
use Rattle.machine_check.proofs.assignments.add_all_assigned.Goals as goal

pub loop-action-init : goal.loop-action-init
loop-action-init c = none_yet (has c.args.texts.now)

pub loop-action-preserved : goal.loop-action-preserved
loop-action-preserved c =
    texts_more (λ a x. is_among (assigned a.1) x) c.args.actions.now c.loop-action.action-index c.action-item.result (has c.args.texts.now) (has c.loop-action.texts) (has c.add_assigned.new.texts)
    c.loop-action-test.true c.action-item.is c.loop-action.invariant c.in_ok-add_assigned.ensures
