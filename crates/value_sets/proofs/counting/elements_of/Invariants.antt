use Rattle.std.proofs.Common.{◌≡◌}
use Rattle.value_sets.specs.Private.{elements_from}
use Rattle.value_sets.proofs.counting.elements_of.Given as goal

abbrev pub invariant-loop-i : goal.invariant-loop-i
invariant-loop-i l = l.out.items ≡ elements_from l.set 0 l.i
