use Rattle.std.proofs.Common.{◌≡◌, ◌++◌}
use Rattle.rules_arith.proofs.joining.appended.Given as goal

abbrev pub invariant-loop-atom : goal.invariant-loop-atom
invariant-loop-atom l = l.all.items ≡ l.initial.all.items ++ l.yielded
