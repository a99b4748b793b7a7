use Rattle.std.proofs.Common.{◌≡◌, ◌++◌, map, take}
use Rattle.event_values.specs.declared.value.Value.TheVariants as value
use Rattle.value_sets.proofs.pairing.add_row.Given as goal

abbrev pub invariant-loop-b : goal.invariant-loop-b
invariant-loop-b l = l.out.items ≡ l.initial.out.items ++ map (value.Pair l.a) (take l.b-index l.bs)
