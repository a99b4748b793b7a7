use Rattle.std.proofs.Common.{take}
use Rattle.std.specs.List.{AllByRecursion}
use Rattle.formula_core.specs.Typed.{Stands}
use Rattle.rule_kernel.proofs.names.have_one_type.Given as goal

abbrev pub invariant-loop-identifier : goal.invariant-loop-identifier
invariant-loop-identifier l = AllByRecursion (Stands l.sorted.entries) (take l.identifier-index l.names)
