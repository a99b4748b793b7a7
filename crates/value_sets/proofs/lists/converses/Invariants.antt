use Rattle.std.proofs.Common.{◌≡◌, ◌++◌, drop}
use Rattle.std.specs.List.{filter_map}
use Rattle.value_sets.specs.Private.{converse_of}
use Rattle.value_sets.proofs.lists.converses.Given as goal

abbrev pub invariant-loop-x : goal.invariant-loop-x
invariant-loop-x l = l.found.items ++ filter_map converse_of (drop l.x-index l.xs) ≡ filter_map converse_of l.xs
