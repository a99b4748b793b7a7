use Rattle.std.proofs.Common.{◌≡◌, ◌<◌, ◌≤◌, ℕ, None}
use Rattle.static_check.specs.Settling.{references}
use Rattle.static_check.specs.PrivateSorting.{open_at, waiting_for}
use Rattle.static_check.proofs.sorting.first_open_from.Given as goal

abbrev pub invariant-loop-index : goal.invariant-loop-index
invariant-loop-index l = (k : ℕ) → l.from ≤ k → k < l.index → open_at (waiting_for l.names) (references l.component) k ≡ None
