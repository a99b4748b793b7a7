use Rattle.std.proofs.Common.{◌∙◌}
use Rattle.check_rules.specs.Refinements.{lost_among, unknowns_in}
use Rattle.refine_check.proofs.Faults.{joined_next}
use Rattle.refine_check.proofs.lost.first_lost_in_all_formulas.Goals as goal

pub loop-formula-preserved : goal.loop-formula-preserved
loop-formula-preserved c =
    c.earlier-first.ensures
    ∙ joined_next (λ f. lost_among c.args.component.now c.args.lost.now (unknowns_in f)) c.args.formulas.now c.loop-formula.formula-index c.formula-item.result c.loop-formula.first c.in_ok-here.here
    c.loop-formula-test.true c.formula-item.is c.loop-formula.invariant c.in_ok-here.ensures
