use Rattle.std.proofs.Common.{◌≡◌, ◌+◌, ◌-◌, ◌≤◌, length, drop}
use Rattle.component_text.specs.PrivateTexts.{plain_length}
use Rattle.component_text.proofs.cursor.plain_length.Given as goal

abbrev pub invariant-loop-n : goal.invariant-loop-n
invariant-loop-n l = record { within : l.n ≤ length l.tokens; so_far : l.n + plain_length l.text (drop l.n l.tokens) ≡ plain_length l.text l.tokens }

abbrev pub decreases-loop-n : goal.decreases-loop-n
decreases-loop-n l = length l.tokens - l.n
