use Rattle.std.proofs.Common.{◌≡◌, drop}
use Rattle.value_sets.specs.Private.{greatest_from}
use Rattle.value_sets.proofs.bounds.greatest_from.Given as goal

abbrev pub invariant-loop-value : goal.invariant-loop-value
invariant-loop-value l = greatest_from l.n l.values ≡ greatest_from l.greatest (drop l.value-index l.values)
