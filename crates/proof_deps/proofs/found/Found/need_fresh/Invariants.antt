use Rattle.std.proofs.Common.{◌≡◌, take, None}
use Rattle.std.specs.List.{AllByRecursion}
use Rattle.formula_core.specs.Env.{type_in}
use Rattle.proof_deps.specs.Private.{antecedents_on, Narrows}
use Rattle.proof_deps.proofs.found.Found.need_fresh.Given as goal

abbrev pub invariant-loop-identifier : goal.invariant-loop-identifier
invariant-loop-identifier l = Narrows (antecedents_on l.way) (λ s. AllByRecursion (λ x. type_in s.env x.0 ≡ None) (take l.identifier-index l.added)) l.initial.self l.self
