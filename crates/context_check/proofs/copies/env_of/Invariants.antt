use Rattle.std.proofs.Common.{◌≡◌}
use Rattle.context_check.proofs.copies.env_of.Given as goal

abbrev pub invariant-loop-entry : goal.invariant-loop-entry
invariant-loop-entry l = l.env ≡ l.yielded
