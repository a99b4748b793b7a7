use Rattle.std.proofs.Common.{◌≡◌}
use Rattle.type_formula.specs.Partition.{left_nested}
use Rattle.type_formula.proofs.partition.make_chain.Given as goal

abbrev pub invariant-loop-part : goal.invariant-loop-part
invariant-loop-part l = left_nested l.op l.ty l.joined l.part-iterator.rest.items ≡ left_nested l.op l.ty l.fn.first l.fn.rest.items
