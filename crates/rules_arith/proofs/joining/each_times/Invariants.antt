use Rattle.std.proofs.Common.{◌≡◌, [], Ok, fold}
use Rattle.rules_arith.specs.Private.{times_by}
use Rattle.rules_arith.proofs.Atoms.{scale}
use Rattle.rules_arith.proofs.joining.each_times.Given as goal

abbrev pub invariant-loop-atom : goal.invariant-loop-atom
invariant-loop-atom l = l.done ≡ fold (scale (times_by l.factor)) (Ok []) l.yielded
