use Rattle.std.proofs.Common.{refl}
use Rattle.proof_deps.proofs.Narrowing.{narrows_below, node_narrows, each_never, each_more}
use Rattle.sequent_core.specs.Trees.{Applies}
use Rattle.proof_deps.proofs.Ways.{antecedents_of-Below}
use Rattle.proof_deps.proofs.gather.+gather.Goals as goal

pub gather-returns-in_ok-gather_each-in-Node : goal.gather-returns-in_ok-gather_each-in-Node
gather-returns-in_ok-gather_each-in-Node t c =
    node_narrows _ _ c.in-Node.rule c.items.result.now c.in-Node.children c.items-in-Node.result.now _ _ _ c.in-Node.is c.items.ensures c.items-in-Node.ensures
    (c.in_ok-is_rule-in-Node.ensures.rule.0 c.if-not-branch.false) c.in_ok-need_rule-in-Node.ensures c.in_ok-gather_each-in-Node.ensures

pub gather_each-returns-then-trees-antecedents : goal.gather_each-returns-then-trees-antecedents
gather_each-returns-then-trees-antecedents t c = each_never _ _ _ _ _ c.if-trees-antecedents.true refl

pub gather_each-loop-i-preserved : goal.gather_each-loop-i-preserved
gather_each-loop-i-preserved t c =
    each_more _ c.args.trees.now c.args.antecedents.now c.loop-i.i c.index-trees-i.result _ c.index-antecedents-i.result _ _ _ _ c.loop-i-test.true c.if-trees-antecedents.false c.index-trees-i.is c.index-antecedents-i.is
    c.loop-i.invariant c.in_ok-gather_below.ensures

pub gather_below-returns : goal.gather_below-returns
gather_below-returns t c = narrows_below _ _ c.args.antecedent.now c.items.result.now (Applies c.args.tree.now) _ _ _ (antecedents_of-Below _ _) c.items.ensures c.in_ok-need_fresh.ensures c.in_ok-gather.ensures
