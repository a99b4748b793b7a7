use Rattle.std.proofs.Common.{map, take}
use Rattle.std.specs.Arc.{arc_value}
use Rattle.build_core.specs.Private.{IndexesTable}
use Rattle.build_core.proofs.places.places_of.Given as goal

abbrev pub invariant-loop-at : goal.invariant-loop-at
invariant-loop-at l = IndexesTable (map arc_value (take l.at l.obligations)) l.places.entries
