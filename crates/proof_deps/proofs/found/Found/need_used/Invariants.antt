use Rattle.std.proofs.Common.{take}
use Rattle.std.specs.List.{AllByRecursion}
use Rattle.formula_core.specs.Typed.{Stands}
use Rattle.proof_deps.specs.Private.{antecedents_on, Narrows}
use Rattle.proof_deps.proofs.found.Found.need_used.Given as goal

abbrev pub invariant-loop-identifier : goal.invariant-loop-identifier
invariant-loop-identifier l = Narrows (antecedents_on l.way) (λ s. AllByRecursion (Stands s.env) (take l.identifier-index l.wanted)) l.initial.self l.self
