use Rattle.std.proofs.Common.{◌≡◌, ◌+◌, ◌-◌, ◌≤◌, length, drop}
use Rattle.std.specs.List.{prefix_len}
use Rattle.formula_core.specs.Texts.{is_in_label}
use Rattle.component_tokens.proofs.piece.label_run.Given as goal

abbrev pub invariant-loop-n : goal.invariant-loop-n
invariant-loop-n l = record { within : l.n ≤ length l.bytes; short : l.n ≤ 64; so_far : l.n + prefix_len is_in_label (drop l.n l.bytes) ≡ prefix_len is_in_label l.bytes }

abbrev pub decreases-loop-n : goal.decreases-loop-n
decreases-loop-n l = length l.bytes - l.n
