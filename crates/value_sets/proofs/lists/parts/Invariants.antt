use Rattle.std.proofs.Common.{◌≡◌, ◌++◌, drop}
use Rattle.std.specs.List.{filter_map}
use Rattle.value_sets.specs.Private.{part_of}
use Rattle.value_sets.proofs.lists.parts.Given as goal

abbrev pub invariant-loop-x : goal.invariant-loop-x
invariant-loop-x l = l.found.items ++ filter_map (part_of l.side) (drop l.x-index l.xs) ≡ filter_map (part_of l.side) l.xs
