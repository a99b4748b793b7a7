use Rattle.std.proofs.Common.{◌∙◌, []}
use Rattle.type_action.specs.CoreActions.{core_action, unknowns_of}
use Rattle.check_rules.specs.Refinements.{lost_among}
use Rattle.refine_check.proofs.Faults.{joined_next}
use Rattle.refine_check.proofs.lost.first_lost_in_actions.Goals as goal

pub loop-step-preserved : goal.loop-step-preserved
loop-step-preserved c =
    c.earlier-first.ensures
    ∙ joined_next (λ s. lost_among c.args.component.now c.args.lost.now (unknowns_of [] (core_action s.action))) c.args.actions.now c.loop-step.step-index c.step-item.result c.loop-step.first c.in_ok-here.here
    c.loop-step-test.true c.step-item.is c.loop-step.invariant c.in_ok-here.ensures
