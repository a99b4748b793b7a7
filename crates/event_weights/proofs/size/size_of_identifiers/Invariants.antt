use Rattle.std.proofs.Common.{◌≡◌, ◌+◌, ◌-◌, ◌^◌, ◌<◌, min, map, drop, sum}
use Rattle.event_weights.specs.Private.{identifier_size}
use Rattle.event_weights.proofs.size.size_of_identifiers.Given as goal

abbrev pub invariant-loop-identifier : goal.invariant-loop-identifier
invariant-loop-identifier l = (min (l.total + sum (map identifier_size (drop l.identifier-index l.identifiers))) (2 ^ 64 - 1) ≡ min (sum (map identifier_size l.identifiers)) (2 ^ 64 - 1)) × (l.total < 2 ^ 64)
