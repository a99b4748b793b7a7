use Rattle.std.proofs.Common.{◌≡◌, ◌+◌, ◌-◌, ◌≤◌, length, drop}
use Rattle.component_tokens.specs.Gaps.{line_length}
use Rattle.component_tokens.proofs.gap.line_length.Given as goal

abbrev pub invariant-loop-n : goal.invariant-loop-n
invariant-loop-n l = record { within : l.n ≤ length l.bytes; so_far : l.n + line_length (drop l.n l.bytes) ≡ line_length l.bytes }

abbrev pub decreases-loop-n : goal.decreases-loop-n
decreases-loop-n l = length l.bytes - l.n
