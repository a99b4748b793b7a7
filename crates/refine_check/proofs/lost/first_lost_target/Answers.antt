use Rattle.std.proofs.Common.{◌∙◌, [], ◌∷◌}
use Rattle.check_rules.specs.Refinements.{lost_among}
use Rattle.refine_check.specs.Private.{used_at}
use Rattle.refine_check.proofs.Faults.{joined_next}
use Rattle.refine_check.proofs.lost.first_lost_target.Goals as goal

pub loop-target-preserved : goal.loop-target-preserved
loop-target-preserved c =
    c.earlier-first.ensures
    ∙ joined_next (λ r. lost_among c.args.component.now c.args.lost.now (used_at r ∷ [])) c.args.targets.now c.loop-target.target-index c.target-item.result c.loop-target.first c.in_ok-here.here
    c.loop-target-test.true c.target-item.is c.loop-target.invariant c.in_ok-here.ensures
