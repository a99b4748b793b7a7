use Rattle.std.proofs.Common.{◌∙◌}
use Rattle.check_rules.specs.Refinements.{lost_among, unknowns_in}
use Rattle.refine_check.proofs.Faults.{joined_next}
use Rattle.refine_check.proofs.lost.first_lost_in_guards.Goals as goal

pub loop-guard-preserved : goal.loop-guard-preserved
loop-guard-preserved c =
    c.earlier-first.ensures
    ∙ joined_next (λ g. lost_among c.args.component.now c.args.lost.now (unknowns_in g.formula)) c.args.guards.now c.loop-guard.guard-index c.guard-item.result c.loop-guard.first c.in_ok-here.here
    c.loop-guard-test.true c.guard-item.is c.loop-guard.invariant c.in_ok-here.ensures
