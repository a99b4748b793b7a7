use Rattle.std.proofs.Common.{◌≡◌, drop}
use Rattle.type_action.specs.CoreActions.{with_all}
use Rattle.machine_check.proofs.environment.add_all.Given as goal

abbrev pub invariant-loop-entry : goal.invariant-loop-entry
invariant-loop-entry l = with_all l.env (drop l.entry-index l.names) ≡ with_all l.initial.env l.names
