use Rattle.std.proofs.Common.{◌∙◌}
use Rattle.refine_check.proofs.Converging.{bad_is}
use Rattle.refine_check.proofs.convergence.converges_badly.Goals as goal

pub returns : goal.returns
returns c =
    c.is_bad.ensures
    ∙ bad_is c.args.has_variant c.args.refined.now c.args.event.now c.lacks_variant-lacks.result c.is_convergent-convergent.result c.has_some-some.result c.are_convergent-all_converge.result
    c.is_ordinary-ordinary.result c.has_ordinary-of_ordinary.result c.has_anticipated-of_anticipated.result c.is_initialisation-starts.result
    c.is_convergent-convergent.ensures c.has_some-some.ensures c.are_convergent-all_converge.ensures c.lacks_variant-lacks.ensures c.is_ordinary-ordinary.ensures
    c.has_ordinary-of_ordinary.ensures c.has_anticipated-of_anticipated.ensures c.is_initialisation-starts.ensures
