use Rattle.std.proofs.Common.{◌≡◌, ◌-◌, ◌^◌, ◌<◌, min, max, take, drop, map, sum, fold}
use Rattle.formula_core.specs.Sizes.{formula_height, formula_nodes, greatest}
use Rattle.well_defined.specs.Predicates.{top}
use Rattle.well_defined.specs.Connectives.{conjoined}
use Rattle.well_defined.specs.Conditions.{wd_of}
use Rattle.condition_size.specs.Sizes.{clamped, size_of}
use Rattle.condition_size.proofs.condition.+sizes.Given as goal

abbrev pub invariant-sizes_of_all-loop-part : goal.invariant-sizes_of_all-loop-part
invariant-sizes_of_all-loop-part l = record {
  nodes : l.nodes ≡ clamped (sum (map formula_nodes (take l.part-index l.parts)));
  height : (min (max l.height (greatest (map formula_height (drop l.part-index l.parts)))) (2 ^ 64 - 1) ≡ clamped (greatest (map formula_height l.parts))) × (l.height < 2 ^ 64);
  condition : l.condition ≡ size_of (fold conjoined top (map wd_of (take l.part-index l.parts)));
}
