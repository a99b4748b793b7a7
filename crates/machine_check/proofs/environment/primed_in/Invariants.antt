use Rattle.std.proofs.Common.{◌≡◌, take}
use Rattle.model_core.specs.Borrowed.{has}
use Rattle.machine_check.specs.PrivateTyped.{primed_known}
use Rattle.machine_check.proofs.environment.primed_in.Given as goal

abbrev pub invariant-loop-entry : goal.invariant-loop-entry
invariant-loop-entry l = l.found.items ≡ primed_known (has l.variables) (take l.entry-index l.entries)
