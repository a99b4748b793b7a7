use Rattle.std.proofs.Common.{[]}
use Rattle.model_core.specs.Borrowed.{has}
use Rattle.context_check.proofs.Views.{grows}
use Rattle.machine_check.specs.PrivateTyped.{primed_known}
use Rattle.machine_check.proofs.Params.{primed_append}
use Rattle.machine_check.proofs.environment.primed_in.Goals as goal

pub loop-entry-preserved : goal.loop-entry-preserved
loop-entry-preserved c =
    grows (primed_known (has c.args.variables.now)) (primed_append (has c.args.variables.now)) c.args.entries.now c.loop-entry.entry-index c.entry-item.result
    [] c.loop-entry.found.items c.add_primed.new.found.items c.loop-entry-test.true c.entry-item.is c.loop-entry.invariant c.in_ok-add_primed.ensures
