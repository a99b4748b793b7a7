use Rattle.std.proofs.Common.{◌≡◌, drop}
use Rattle.value_sets.specs.Private.{all_among}
use Rattle.value_sets.proofs.lists.all_among.Given as goal

abbrev pub invariant-loop-x : goal.invariant-loop-x
invariant-loop-x l = all_among l.values l.xs ≡ all_among l.values (drop l.x-index l.xs)
