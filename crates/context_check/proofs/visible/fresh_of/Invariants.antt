use Rattle.std.proofs.Common.{◌≡◌, not, filter, map, take}
use Rattle.model_core.specs.Borrowed.{has}
use Rattle.context_check.specs.Views.{placed}
use Rattle.context_check.proofs.visible.fresh_of.Given as goal

abbrev pub invariant-loop-pair : goal.invariant-loop-pair
invariant-loop-pair g l = map placed l.fresh.items ≡ filter (λ x. not (has l.known x.1)) (map placed (take l.pair-index l.pairs))
