use Rattle.std.proofs.Common.{◌≡◌, take}
use Rattle.std.specs.List.{filter}
use Rattle.value_sets.specs.Private.{is_chosen}
use Rattle.value_sets.proofs.lists.kept.Given as goal

abbrev pub invariant-loop-x : goal.invariant-loop-x
invariant-loop-x l = l.found.items ≡ filter (is_chosen l.side l.wanted l.others) (take l.x-index l.xs)
