use Rattle.std.proofs.Common.{◌≡◌, None}
use Rattle.formula_core.specs.Env.{type_in}
use Rattle.proof_deps.proofs.Narrowing.{narrows_more}
use Rattle.proof_deps.proofs.found.Found.need_fresh.Goals as goal

pub loop-identifier-preserved : goal.loop-identifier-preserved
loop-identifier-preserved c = narrows_more _ (λ s x. type_in s.env x.0 ≡ None) c.args.added.now c.loop-identifier.identifier-index c.identifier-item.result _ _ _ _ c.loop-identifier-test.true c.identifier-item.is c.loop-identifier.invariant c.in_ok-need_new.ensures
