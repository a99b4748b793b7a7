use Rattle.std.proofs.Common.{◌≡◌, ◌||◌, ◌++◌, ℕ, List, map, take}
use Rattle.model_core.specs.Each.{is_among}
use Rattle.model_core.specs.Borrowed.{has}
use Rattle.context_check.proofs.visible.push_names.Given as goal

abbrev pub invariant-loop-name : goal.invariant-loop-name
invariant-loop-name l = record {
  names : map (λ n. n.now) l.names.items ≡ map (λ n. n.now) l.initial.names.items ++ map (λ n. n.now) (take l.name-index l.fresh);
  known : (x : List ℕ) → has l.known x ≡ (has l.initial.known x || is_among (map (λ n. n.now) (take l.name-index l.fresh)) x);
}
