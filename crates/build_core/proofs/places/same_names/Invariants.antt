use Rattle.std.proofs.Common.{◌≡◌, map, take}
use Rattle.std.specs.Arc.{arc_value}
use Rattle.build_core.specs.Private.{obligation_names}
use Rattle.build_core.proofs.places.same_names.Given as goal

abbrev pub invariant-loop-at : goal.invariant-loop-at
invariant-loop-at l = obligation_names (map arc_value (take l.at l.one)) ≡ obligation_names (map arc_value (take l.at l.other))
