use Rattle.std.proofs.Common.{◌∙◌}
use Rattle.build_core.proofs.Referred.{first_reference}
use Rattle.build_core.proofs.references.first_in_references.Goals as goal

pub loop-reference-preserved : goal.loop-reference-preserved
loop-reference-preserved c =
    c.earlier-first.ensures
    ∙ first_reference c.args.outcomes.now c.args.component.now c.args.context c.args.references.now c.loop-reference.reference-index c.reference-item.result
    c.loop-reference.first c.in_ok-fault.fault c.loop-reference-test.true c.reference-item.is c.loop-reference.invariant c.in_ok-fault.ensures
