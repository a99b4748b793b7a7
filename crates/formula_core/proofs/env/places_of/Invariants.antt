use Rattle.std.proofs.Common.{take}
use Rattle.formula_core.specs.PrivatePlaces.{AreAtPlaces}
use Rattle.formula_core.proofs.env.places_of.Given as goal

abbrev pub invariant-loop-at : goal.invariant-loop-at
invariant-loop-at l = AreAtPlaces (take l.at l.entries) l.places.entries
