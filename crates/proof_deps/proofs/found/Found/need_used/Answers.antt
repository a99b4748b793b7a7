use Rattle.formula_core.specs.Typed.{Stands}
use Rattle.proof_deps.proofs.Narrowing.{narrows_more}
use Rattle.proof_deps.proofs.found.Found.need_used.Goals as goal

pub loop-identifier-preserved : goal.loop-identifier-preserved
loop-identifier-preserved c = narrows_more _ (λ s x. Stands s.env x) c.args.wanted.now c.loop-identifier.identifier-index c.identifier-item.result _ _ _ _ c.loop-identifier-test.true c.identifier-item.is c.loop-identifier.invariant c.in_ok-need_type.ensures
