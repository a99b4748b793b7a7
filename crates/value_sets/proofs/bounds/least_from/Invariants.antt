use Rattle.std.proofs.Common.{◌≡◌, drop}
use Rattle.value_sets.specs.Private.{least_from}
use Rattle.value_sets.proofs.bounds.least_from.Given as goal

abbrev pub invariant-loop-value : goal.invariant-loop-value
invariant-loop-value l = least_from l.n l.values ≡ least_from l.least (drop l.value-index l.values)
