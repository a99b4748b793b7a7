use Rattle.std.proofs.Common.{◌≡◌, map, take}
use Rattle.check_rules.specs.Components.{contexts_in}
use Rattle.context_check.proofs.context.contexts_in.Given as goal

abbrev pub invariant-loop-part : goal.invariant-loop-part
invariant-loop-part l = map (λ c. c.now) l.contexts.items ≡ contexts_in (map (λ p. p.now) (take l.part-index l.parts))
