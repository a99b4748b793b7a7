use Rattle.std.proofs.Common.{◌≡◌, ◌||◌, ℕ, List, map, take}
use Rattle.context_check.specs.Views.{placed, clashes, clashes_with}
use Rattle.context_check.proofs.visible.note_all.Given as goal

abbrev pub invariant-loop-pair : goal.invariant-loop-pair
invariant-loop-pair l = (x o : List ℕ) → clashes l.names x o ≡ (clashes l.initial.names x o || clashes_with (map placed (take l.pair-index l.pairs)) x o)
