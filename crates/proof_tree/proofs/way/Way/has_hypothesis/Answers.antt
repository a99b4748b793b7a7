use Rattle.std.proofs.Common.{inl, ⊎_elim}
use Rattle.proof_tree.specs.Ways.{antecedents_of}
use Rattle.proof_tree.proofs.WayEnds.{hyp_at_end}
use Rattle.proof_tree.proofs.way.Way.has_hypothesis.Goals as goal

pub returns-then-has_hypothesis : goal.returns-then-has_hypothesis
returns-then-has_hypothesis c = (
  λ h. hyp_at_end (antecedents_of c.args.self.now) c.args.sequent.now c.args.formula.now (c.has_hypothesis.ensures.0 h),
  λ h. c.if-has_hypothesis.true,
)

pub returns-else-has_hypothesis : goal.returns-else-has_hypothesis
returns-else-has_hypothesis c =
    let adds = c.adds.ensures c.args.sequent.now in (
      λ h. adds.1 (inl h),
      λ k. ⊎_elim (λ h. h) (λ q. let yes = c.has_hypothesis.ensures.1 q in let no = c.if-has_hypothesis.false in cc) (adds.0 k),
    )
