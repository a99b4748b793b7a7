use Rattle.std.proofs.Common.{◌≡◌, map, drop}
use Rattle.formula_core.specs.Sizes.{all_hold, is_type_within}
use Rattle.formula_core.proofs.size.all_are_within.Given as goal

abbrev pub invariant-loop-ty : goal.invariant-loop-ty
invariant-loop-ty l = all_hold (map (is_type_within l.limit) l.types) ≡ all_hold (map (is_type_within l.limit) (drop l.ty-index l.types))
