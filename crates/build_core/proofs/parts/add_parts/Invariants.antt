use Rattle.std.proofs.Common.{◌≡◌, ◌++◌, take, map, true}
use Rattle.build_core.specs.Projects.{wanting}
use Rattle.build_core.specs.Private.{parts_at}
use Rattle.build_core.proofs.parts.add_parts.Given as goal

abbrev pub invariant-loop-reference : goal.invariant-loop-reference
invariant-loop-reference l =
    map (λ p. p.now) l.parts.items ≡ map (λ p. p.now) l.initial.parts.items ++ parts_at l.outcomes (wanting true (take l.reference-index l.references))
