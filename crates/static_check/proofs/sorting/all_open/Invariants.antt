use Rattle.std.proofs.Common.{◌≡◌, ℕ, List, map, take}
use Rattle.static_check.specs.PrivateSorting.{all_open, waiting_for}
use Rattle.static_check.proofs.sorting.all_open.Given as goal

abbrev pub invariant-loop-component : goal.invariant-loop-component
invariant-loop-component l = (x : List ℕ) → waiting_for l.names x ≡ all_open (map (λ x. x.now) (take l.component-index l.components)) x
