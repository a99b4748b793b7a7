use Rattle.std.proofs.Common.{◌≡◌, ◌||◌, ◌++◌, ℕ, List, map, take}
use Rattle.model_core.specs.Each.{is_among}
use Rattle.check_rules.specs.Visible.{origins}
use Rattle.model_core.specs.Borrowed.{has}
use Rattle.context_check.specs.Views.{placed}
use Rattle.context_check.proofs.visible.push_parts.Given as goal

abbrev pub invariant-loop-pair : goal.invariant-loop-pair
invariant-loop-pair g l = record {
  parts : map placed l.parts.items ≡ map placed l.initial.parts.items ++ map placed (take l.pair-index l.fresh);
  known : (x : List ℕ) → has l.known x ≡ (has l.initial.known x || is_among (origins (map placed (take l.pair-index l.fresh))) x);
}
