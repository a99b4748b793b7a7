use Rattle.std.proofs.Common.{◌≡◌, take}
use Rattle.value_sets.specs.Private.{pairs_from, reached}
use Rattle.value_sets.proofs.pairing.composition_rows.Given as goal

abbrev pub invariant-loop-a : goal.invariant-loop-a
invariant-loop-a l = l.found.items ≡ pairs_from (reached l.p l.q) (take l.a-index l.lefts)
