use Rattle.std.proofs.Common.{◌≡◌, ◌++◌, map, take}
use Rattle.type_formula.specs.Partition.{disjoint}
use Rattle.type_formula.proofs.partition.add_disjoint_from.Given as goal

abbrev pub invariant-loop-other : goal.invariant-loop-other
invariant-loop-other l = l.out.items ≡ l.initial.out.items ++ map (disjoint l.ty l.set) (take l.other-index l.others)
