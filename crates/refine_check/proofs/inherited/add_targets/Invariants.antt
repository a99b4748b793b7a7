use Rattle.std.proofs.Common.{◌≡◌, ◌++◌, map, take}
use Rattle.refine_check.proofs.inherited.add_targets.Given as goal

abbrev pub invariant-loop-value : goal.invariant-loop-value
invariant-loop-value l = l.found.items ≡ l.initial.found.items ++ map (λ p. p.0) (take l.value-index l.values)
