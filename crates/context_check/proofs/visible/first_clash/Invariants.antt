use Rattle.std.proofs.Common.{◌≡◌, map, drop}
use Rattle.context_check.specs.Views.{placed, clashes}
use Rattle.context_check.specs.Private.{first_clashing}
use Rattle.context_check.proofs.visible.first_clash.Given as goal

abbrev pub invariant-loop-pair : goal.invariant-loop-pair
invariant-loop-pair l = first_clashing (clashes l.names) (map placed l.pairs) ≡ first_clashing (clashes l.names) (map placed (drop l.pair-index l.pairs))
