use Rattle.std.specs.Prelude.{Contains}
use Rattle.proof_deps.proofs.Narrowing.{narrows_more}
use Rattle.proof_deps.proofs.found.Found.need_hyps.Goals as goal

pub loop-formula-preserved : goal.loop-formula-preserved
loop-formula-preserved c = narrows_more _ (λ s f. Contains s.hyps f) c.args.wanted.now c.loop-formula.formula-index c.formula-item.result _ _ _ _ c.loop-formula-test.true c.formula-item.is c.loop-formula.invariant c.in_ok-need_hyp.ensures
