use Rattle.std.proofs.Common.{◌≡◌, ◌+◌, ◌-◌, ◌^◌, ◌<◌, min, map, drop}
use Rattle.sequent_core.specs.Members.{counted, type_members}
use Rattle.sequent_core.proofs.members.members_of_types.Given as goal

abbrev pub invariant-loop-ty : goal.invariant-loop-ty
invariant-loop-ty l = (min (l.total + counted (map type_members (drop l.ty-index l.types))) (2 ^ 64 - 1) ≡ min (counted (map type_members l.types)) (2 ^ 64 - 1)) × (l.total < 2 ^ 64)
