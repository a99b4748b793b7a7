use Rattle.std.proofs.Common.{◌≡◌, drop, map, fold}
use Rattle.formula_core.specs.Formulas.{occurrences, with_identifier, joined}
use Rattle.formula_core.specs.PrivatePlaces.{HasPlaces}
use Rattle.formula_core.proofs.+free.Given as goal

abbrev pub invariant-free::collect_all-loop-item : goal.invariant-free::collect_all-loop-item
invariant-free::collect_all-loop-item l =
    (fold with_identifier l.found.identifiers.items (joined (map occurrences (drop l.item-index l.items))) ≡ fold with_identifier l.initial.found.identifiers.items (joined (map occurrences l.items)))
    × HasPlaces l.found.identifiers.items l.found.places.entries
