use Rattle.std.proofs.Common.{◌≡◌, map, take}
use Rattle.context_check.proofs.copies.copy_origins.Given as goal

abbrev pub invariant-loop-part : goal.invariant-loop-part
invariant-loop-part g l = l.copies.items ≡ map (λ p. p.1.now) (take l.part-index l.parts)
