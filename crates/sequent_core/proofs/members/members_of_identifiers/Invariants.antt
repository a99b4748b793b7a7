use Rattle.std.proofs.Common.{◌≡◌, ◌+◌, ◌-◌, ◌^◌, ◌<◌, min, map, drop}
use Rattle.sequent_core.specs.Members.{counted, identifier_members}
use Rattle.sequent_core.proofs.members.members_of_identifiers.Given as goal

abbrev pub invariant-loop-identifier : goal.invariant-loop-identifier
invariant-loop-identifier l = (min (l.total + counted (map identifier_members (drop l.identifier-index l.identifiers))) (2 ^ 64 - 1) ≡ min (counted (map identifier_members l.identifiers)) (2 ^ 64 - 1)) × (l.total < 2 ^ 64)
