use Rattle.std.proofs.Common.{take}
use Rattle.std.specs.List.{AllByRecursion}
use Rattle.formula_core.specs.Typed.{Stands}
use Rattle.proof_deps.proofs.deps.has_used.Given as goal

abbrev pub invariant-loop-identifier : goal.invariant-loop-identifier
invariant-loop-identifier l = AllByRecursion (Stands l.env) (take l.identifier-index l.wanted)
