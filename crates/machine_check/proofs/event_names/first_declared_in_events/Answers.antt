use Rattle.std.proofs.Common.{◌∙◌}
use Rattle.model_core.specs.Borrowed.{has}
use Rattle.machine_check.specs.PrivateNames.{declared_in}
use Rattle.machine_check.proofs.Assigned.{first_joined}
use Rattle.machine_check.proofs.event_names.first_declared_in_events.Goals as goal

pub loop-event-preserved : goal.loop-event-preserved
loop-event-preserved c =
    c.earlier-first.ensures
    ∙ first_joined (declared_in c.args.component.now c.args.events.now (has c.args.known.now)) (λ x. x) c.args.written.now c.loop-event.event-index c.event-item.result c.loop-event.first c.in_ok-here.here c.loop-event-test.true c.event-item.is
    c.loop-event.invariant c.in_ok-here.ensures
