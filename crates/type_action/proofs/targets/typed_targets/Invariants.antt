use Rattle.std.proofs.Common.{◌≡◌, ◌++◌, drop}
use Rattle.type_action.specs.CoreActions.{typed_targets}
use Rattle.type_action.proofs.targets.typed_targets.Given as goal

abbrev pub invariant-loop-target : goal.invariant-loop-target
invariant-loop-target l = l.typed.items ++ typed_targets l.env (drop l.target-index l.targets) ≡ typed_targets l.env l.targets
