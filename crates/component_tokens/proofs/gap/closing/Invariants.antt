use Rattle.std.proofs.Common.{◌≡◌, drop}
use Rattle.component_tokens.specs.Gaps.{closing}
use Rattle.component_tokens.proofs.Gaps.{further}
use Rattle.component_tokens.proofs.gap.closing.Given as goal

abbrev pub invariant-loop-i : goal.invariant-loop-i
invariant-loop-i l = closing l.bytes ≡ further l.i (closing (drop l.i l.bytes))
