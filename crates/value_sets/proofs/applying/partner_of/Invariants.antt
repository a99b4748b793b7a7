use Rattle.std.proofs.Common.{◌≡◌, drop}
use Rattle.value_sets.specs.Private.{partner_of}
use Rattle.value_sets.proofs.applying.partner_of.Given as goal

abbrev pub invariant-loop-pair : goal.invariant-loop-pair
invariant-loop-pair l = partner_of l.pairs l.a ≡ partner_of (drop l.pair-index l.pairs) l.a
