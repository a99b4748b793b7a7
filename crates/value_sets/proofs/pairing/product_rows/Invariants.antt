use Rattle.std.proofs.Common.{◌≡◌, take}
use Rattle.value_sets.specs.Private.{pairs_from}
use Rattle.value_sets.proofs.pairing.product_rows.Given as goal

abbrev pub invariant-loop-a : goal.invariant-loop-a
invariant-loop-a l = l.found.items ≡ pairs_from (λ a. l.rights) (take l.a-index l.lefts)
