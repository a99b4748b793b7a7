use Rattle.std.proofs.Common.{◌∙◌}
use Rattle.model_core.specs.Borrowed.{has}
use Rattle.machine_check.specs.PrivateEvents.{both_of, no_variable_in}
use Rattle.machine_check.proofs.Assigned.{first_joined}
use Rattle.machine_check.proofs.assignments.first_no_variable.Goals as goal

pub loop-event-preserved : goal.loop-event-preserved
loop-event-preserved c =
    c.earlier-first.ensures
    ∙ first_joined (no_variable_in c.args.component.now (has c.args.variables.now)) both_of c.args.events.now c.loop-event.event-index c.event-item.result c.loop-event.first c.in_ok-here.here c.loop-event-test.true c.event-item.is
    c.loop-event.invariant c.in_ok-here.ensures
