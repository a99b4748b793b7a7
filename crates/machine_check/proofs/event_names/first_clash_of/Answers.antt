use Rattle.std.proofs.Common.{◌∙◌}
use Rattle.model_core.specs.Borrowed.{has}
use Rattle.machine_check.specs.PrivateNames.{clash_of}
use Rattle.machine_check.proofs.Assigned.{first_joined}
use Rattle.machine_check.proofs.event_names.first_clash_of.Goals as goal

pub loop-param-preserved : goal.loop-param-preserved
loop-param-preserved c =
    c.earlier-first.ensures
    ∙ first_joined (clash_of c.args.component.now (has c.args.known.now) c.args.place) (λ x. x) c.args.params.now c.loop-param.param-index c.param-item.result c.loop-param.first c.in_ok-here.here c.loop-param-test.true c.param-item.is
    c.loop-param.invariant c.in_ok-here.ensures
