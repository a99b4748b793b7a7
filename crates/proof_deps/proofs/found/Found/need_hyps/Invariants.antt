use Rattle.std.proofs.Common.{take}
use Rattle.std.specs.List.{AllByRecursion}
use Rattle.std.specs.Prelude.{Contains}
use Rattle.proof_deps.specs.Private.{antecedents_on, Narrows}
use Rattle.proof_deps.proofs.found.Found.need_hyps.Given as goal

abbrev pub invariant-loop-formula : goal.invariant-loop-formula
invariant-loop-formula l = Narrows (antecedents_on l.way) (λ s. AllByRecursion (Contains s.hyps) (take l.formula-index l.wanted)) l.initial.self l.self
