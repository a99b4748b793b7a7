use Rattle.std.proofs.Common.{◌≡◌, map, take}
use Rattle.context_check.proofs.copies.copy_entries.Given as goal

abbrev pub invariant-loop-part : goal.invariant-loop-part
invariant-loop-part l = l.copies.items ≡ map (λ p. p.0.now) (take l.part-index l.parts)
