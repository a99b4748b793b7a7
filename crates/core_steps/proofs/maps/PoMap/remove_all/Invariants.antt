use Rattle.std.proofs.Common.{◌≡◌, drop}
use Rattle.core_steps.specs.State.{without_all}
use Rattle.core_steps.proofs.maps.PoMap.remove_all.Given as goal

-- what is left to remove ends at the same map
abbrev pub invariant-loop-name : goal.invariant-loop-name
invariant-loop-name g l = without_all l.self (drop l.name-index l.names) ≡ without_all l.initial.self l.names
