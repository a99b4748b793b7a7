use Rattle.std.proofs.Common.{◌≡◌, drop}
use Rattle.value_sets.specs.Private.{among}
use Rattle.value_sets.proofs.lists.among.Given as goal

abbrev pub invariant-loop-value : goal.invariant-loop-value
invariant-loop-value l = among l.values l.x ≡ among (drop l.value-index l.values) l.x
