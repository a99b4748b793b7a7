use Rattle.std.proofs.Common.{◌≡◌, fold, drop}
use Rattle.type_formula.specs.Unknowns.{earlier_name}
use Rattle.type_action.specs.CoreActions.{unknown_targets}
use Rattle.type_action.proofs.targets.keep_unknown_targets.Given as goal

abbrev pub invariant-loop-target : goal.invariant-loop-target
invariant-loop-target l = fold earlier_name l.found (unknown_targets l.env (drop l.target-index l.targets)) ≡ fold earlier_name l.initial.found (unknown_targets l.env l.targets)
