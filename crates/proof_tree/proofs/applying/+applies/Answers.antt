use Rattle.proof_tree.specs.Ways.{antecedents_of}
use Rattle.sequent_core.specs.Trees.{at_end}
use Rattle.proof_tree.proofs.Each.{each_length, each_more, each_not, node_exact}
use Rattle.proof_tree.proofs.applying.+applies.Goals as goal

pub applies_at-returns-else-not-branch : goal.applies_at-returns-else-not-branch
applies_at-returns-else-not-branch t c =
    node_exact c.args.tree.now c.in-Node.rule c.in-Node.children c.items.result.now c.items-in-Node.result.now (at_end (antecedents_of c.args.way.now) c.args.sequent.now) c.each_applies.result
    c.in-Node.is c.items.ensures c.items-in-Node.ensures (c.in_ok-is_rule-in-Node.ensures.rule.0 (cc)) (c.meets.ensures.meets.0 (cc)) c.each_applies.ensures

pub each_applies-returns-then-trees-antecedents : goal.each_applies-returns-then-trees-antecedents
each_applies-returns-then-trees-antecedents t c = (
  λ h. cc,
  λ e. absurd (c.if-trees-antecedents.true (each_length c.args.trees.now c.args.antecedents.now (at_end (antecedents_of c.args.way.now) c.args.sequent.now) e)),
)

pub each_applies-returns-then-not-branch : goal.each_applies-returns-then-not-branch
each_applies-returns-then-not-branch t c = (
  λ h. cc,
  λ e. absurd (each_not c.args.trees.now c.args.antecedents.now (at_end (antecedents_of c.args.way.now) c.args.sequent.now) c.loop-i.i c.index-trees-i.result _ c.index-antecedents-i.result _
      c.loop-i-test.true c.if-trees-antecedents.false c.index-trees-i.is c.index-antecedents-i.is
      (λ p. let yes = c.in_ok-applies_below.ensures.1 p in let other = c.if-not-branch.true in cc) e),
)

pub each_applies-loop-i-preserved : goal.each_applies-loop-i-preserved
each_applies-loop-i-preserved t c =
    each_more c.args.trees.now c.args.antecedents.now (at_end (antecedents_of c.args.way.now) c.args.sequent.now) c.loop-i.i c.index-trees-i.result _ c.index-antecedents-i.result _
    c.loop-i-test.true c.if-trees-antecedents.false c.index-trees-i.is c.index-antecedents-i.is c.loop-i.invariant (c.in_ok-applies_below.ensures.0 (cc))
