use Rattle.std.proofs.Common.{◌≡◌, ◌++◌, map, take}
use Rattle.check_rules.specs.Contexts.{carrier_set}
use Rattle.context_check.proofs.copies.add_carrier_sets.Given as goal

abbrev pub invariant-loop-set : goal.invariant-loop-set
invariant-loop-set l = l.entries.items ≡ l.initial.entries.items ++ map carrier_set (take l.set-index l.sets)
