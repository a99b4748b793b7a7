use Rattle.std.proofs.Common.{◌∙◌}
use Rattle.machine_check.specs.PrivateEvents.{both_of, assigned_twice_in}
use Rattle.machine_check.proofs.Assigned.{first_joined}
use Rattle.machine_check.proofs.assignments.first_assigned_twice.Goals as goal

pub loop-event-preserved : goal.loop-event-preserved
loop-event-preserved c =
    c.earlier-first.ensures
    ∙ first_joined (assigned_twice_in c.args.component.now) both_of c.args.events.now c.loop-event.event-index c.event-item.result c.loop-event.first c.in_ok-here.here c.loop-event-test.true c.event-item.is
    c.loop-event.invariant c.in_ok-here.ensures
