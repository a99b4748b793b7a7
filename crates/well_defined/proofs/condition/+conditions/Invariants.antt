use Rattle.std.proofs.Common.{◌≡◌, ◌++◌, take, map}
use Rattle.well_defined.specs.Conditions.{wd_of}
use Rattle.well_defined.proofs.condition.+conditions.Given as goal

abbrev pub invariant-add_conditions-loop-item : goal.invariant-add_conditions-loop-item
invariant-add_conditions-loop-item l = l.out.items ≡ l.initial.out.items ++ map wd_of (take l.item-index l.items)
