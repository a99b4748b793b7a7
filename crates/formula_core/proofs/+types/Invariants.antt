use Rattle.std.proofs.Common.{◌≡◌, map, drop}
use Rattle.formula_core.specs.Sizes.{all_hold, has_types_within}
use Rattle.formula_core.proofs.+types.Given as goal

abbrev pub invariant-size::all_have_types_within-loop-item : goal.invariant-size::all_have_types_within-loop-item
invariant-size::all_have_types_within-loop-item l = all_hold (map (has_types_within l.limit) l.items) ≡ all_hold (map (has_types_within l.limit) (drop l.item-index l.items))
