use Rattle.std.proofs.Common.{◌≡◌, drop}
use Rattle.type_action.specs.CoreActions.{with_all}
use Rattle.type_action.proofs.targets.with_all.Given as goal

abbrev pub invariant-loop-entry : goal.invariant-loop-entry
invariant-loop-entry l = with_all l.all (drop l.entry-index l.names) ≡ with_all l.env l.names
