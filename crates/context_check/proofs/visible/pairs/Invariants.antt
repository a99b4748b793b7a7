use Rattle.std.proofs.Common.{◌≡◌, map, take}
use Rattle.std.specs.List.{zip}
use Rattle.context_check.specs.Views.{placed}
use Rattle.context_check.proofs.visible.pairs.Given as goal

abbrev pub invariant-loop-at : goal.invariant-loop-at
invariant-loop-at g l = map placed l.pairs.items ≡ zip l.parts (take l.at l.origins)
