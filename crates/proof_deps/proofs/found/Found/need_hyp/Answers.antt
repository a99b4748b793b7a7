use Rattle.std.proofs.Common.{refl}
use Rattle.proof_deps.proofs.Narrowing.{hyp_known, hyp_had, hyp_added}
use Rattle.proof_deps.proofs.found.Found.need_hyp.Goals as goal

pub returns-then-adds : goal.returns-then-adds
returns-then-adds c = hyp_known _ _ _ _ c.if-adds.true c.adds.ensures

pub returns-then-has_hyp : goal.returns-then-has_hyp
returns-then-has_hyp c = hyp_had _ _ _ _ c.adds.ensures (c.has_hyp.ensures c.if-has_hyp.true)

pub returns : goal.returns
returns c = hyp_added _ _ _ _ _ _ c.if-adds.false c.adds.ensures refl refl c.in_ok-push.ensures.items refl refl c.in_ok-copy.ensures
