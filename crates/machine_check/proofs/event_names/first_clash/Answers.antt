use Rattle.std.proofs.Common.{◌∙◌}
use Rattle.model_core.specs.Borrowed.{has}
use Rattle.machine_check.specs.PrivateNames.{clash_at}
use Rattle.machine_check.proofs.Assigned.{first_joined}
use Rattle.machine_check.proofs.event_names.first_clash.Goals as goal

pub loop-reference-preserved : goal.loop-reference-preserved
loop-reference-preserved c =
    c.earlier-first.ensures
    ∙ first_joined (clash_at c.args.component.now c.args.events.now (has c.args.known.now)) (λ x. x) c.args.references.now c.loop-reference.reference-index c.reference-item.result c.loop-reference.first c.in_ok-here.here c.loop-reference-test.true c.reference-item.is
    c.loop-reference.invariant c.in_ok-here.ensures
