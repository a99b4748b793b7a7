use Rattle.std.proofs.Common.{◌≡◌, ◌+◌, ◌-◌, ◌^◌, ◌<◌, min, map, drop, sum}
use Rattle.event_weights.specs.Private.{type_size}
use Rattle.event_weights.proofs.size.size_of_types.Given as goal

abbrev pub invariant-loop-ty : goal.invariant-loop-ty
invariant-loop-ty l = (min (l.total + sum (map type_size (drop l.ty-index l.types))) (2 ^ 64 - 1) ≡ min (sum (map type_size l.types)) (2 ^ 64 - 1)) × (l.total < 2 ^ 64)
