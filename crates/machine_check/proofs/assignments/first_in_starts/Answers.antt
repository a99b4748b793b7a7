use Rattle.std.proofs.Common.{◌∙◌}
use Rattle.check_rules.specs.Contexts.{names_of}
use Rattle.model_core.specs.Borrowed.{has}
use Rattle.machine_check.specs.PrivateEvents.{both_of, bad_start_in}
use Rattle.machine_check.proofs.Assigned.{first_joined}
use Rattle.machine_check.proofs.assignments.first_in_starts.Goals as goal

pub loop-start-preserved : goal.loop-start-preserved
loop-start-preserved c =
    c.earlier-first.ensures
    ∙ first_joined (bad_start_in c.args.component.now (names_of c.args.own.now) (has c.args.variables.now)) both_of c.args.starts.now c.loop-start.start-index c.start-item.result c.loop-start.first c.in_ok-here.here
    c.loop-start-test.true c.start-item.is c.loop-start.invariant c.in_ok-here.ensures
