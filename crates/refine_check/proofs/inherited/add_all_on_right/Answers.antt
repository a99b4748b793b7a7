use Rattle.check_rules.specs.Assignments.{names_on_right}
use Rattle.refine_check.proofs.Inheriting.{joined_on}
use Rattle.refine_check.proofs.inherited.add_all_on_right.Goals as goal

pub loop-action-preserved : goal.loop-action-preserved
loop-action-preserved c =
    joined_on (λ a. names_on_right a.1) c.args.found.now.items c.add_on_right.new.found.items c.loop-action.found.items c.args.actions.now c.loop-action.action-index c.action-item.result
    c.loop-action-test.true c.action-item.is c.loop-action.invariant c.in_ok-add_on_right.ensures
