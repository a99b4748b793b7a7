use Rattle.std.proofs.Common.{◌≡◌, ◌-◌, ◌^◌, ◌<◌, min, max, map, drop, take}
use Rattle.formula_core.specs.Sizes.{greatest}
use Rattle.std.specs.List.{AllByRecursion}
use Rattle.formula_print.specs.Depths.{deepest}
use Rattle.formula_print.specs.Held.{HasNarrowNumbers}
use Rattle.formula_print.proofs.depths.+deepest.Given as goal

abbrev pub invariant-deepest_of_all-loop-item : goal.invariant-deepest_of_all-loop-item
invariant-deepest_of_all-loop-item l =
    (min (max l.most (greatest (map deepest (drop l.item-index l.items)))) (2 ^ 64 - 1) ≡ min (greatest (map deepest l.items)) (2 ^ 64 - 1)) × (l.most < 2 ^ 64)
    × AllByRecursion HasNarrowNumbers (take l.item-index l.items)
