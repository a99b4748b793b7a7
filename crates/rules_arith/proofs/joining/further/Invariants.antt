use Rattle.std.proofs.Common.{◌≡◌, [], Ok, fold}
use Rattle.rules_arith.specs.Private.{act_of, add_new}
use Rattle.rules_arith.proofs.joining.further.Given as goal

abbrev pub invariant-loop-atom : goal.invariant-loop-atom
invariant-loop-atom l = l.done ≡ fold (add_new (act_of l.joining) l.first) (Ok []) l.yielded
