use Rattle.std.proofs.Common.{◌≡◌, ℕ, List, map, take}
use Rattle.model_core.specs.Each.{is_among}
use Rattle.model_core.specs.Borrowed.{has}
use Rattle.context_check.specs.Views.{placed}
use Rattle.context_check.proofs.context.known_names.Given as goal

abbrev pub invariant-loop-constant : goal.invariant-loop-constant
invariant-loop-constant l = (x : List ℕ) → has l.known x ≡ is_among (map (λ y. y.0.0) (map placed (take l.constant-index l.constants))) x
