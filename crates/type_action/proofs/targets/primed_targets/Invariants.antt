use Rattle.std.proofs.Common.{◌≡◌, ◌++◌, drop}
use Rattle.type_action.specs.CoreActions.{primed_targets}
use Rattle.type_action.proofs.targets.primed_targets.Given as goal

abbrev pub invariant-loop-target : goal.invariant-loop-target
invariant-loop-target l = l.primed.items ++ primed_targets l.env (drop l.target-index l.targets) ≡ primed_targets l.env l.targets
