use Rattle.std.proofs.Common.{◌≡◌, ◌-◌, ◌^◌, ◌<◌, min, max, map, drop}
use Rattle.formula_core.specs.Sizes.{greatest, formula_height}
use Rattle.formula_core.proofs.+height.Given as goal

abbrev pub invariant-size::greatest_height-loop-item : goal.invariant-size::greatest_height-loop-item
invariant-size::greatest_height-loop-item l =
    (min (max l.most (greatest (map formula_height (drop l.item-index l.items)))) (2 ^ 64 - 1) ≡ min (greatest (map formula_height l.items)) (2 ^ 64 - 1)) × (l.most < 2 ^ 64)
