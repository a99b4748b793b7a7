use Rattle.std.proofs.Common.{◌≡◌, [], Ok, fold}
use Rattle.rules_arith.specs.Private.{act_of}
use Rattle.rules_arith.proofs.Atoms.{keep}
use Rattle.rules_arith.proofs.joining.kept.Given as goal

abbrev pub invariant-loop-atom : goal.invariant-loop-atom
invariant-loop-atom l = l.done ≡ fold (keep (act_of l.joining) l.second) (Ok []) l.yielded
