use Rattle.std.proofs.Common.{◌≡◌}
use Rattle.value_sets.specs.Private.{numbers_from}
use Rattle.value_sets.proofs.counting.numbers.Given as goal

abbrev pub invariant-loop-i : goal.invariant-loop-i
invariant-loop-i l = l.out.items ≡ numbers_from l.m l.i
