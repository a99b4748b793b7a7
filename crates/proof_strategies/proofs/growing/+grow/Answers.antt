use Rattle.std.proofs.Common.{sym, ap, subst, rules, [], map, sum, ◌+◌, take, arith}
use Rattle.std.proofs.lemmas.Result.{IfOk-weaker}
use Rattle.sequent_core.specs.declared.tree.Tree.TheVariants.{Node}
use Rattle.sequent_core.specs.PrivateChildren.{EachApplies}
use Rattle.sequent_core.specs.Trees.{node_count}
use Rattle.proof_steps.specs.Private.{HaveDistinctIdentifiers}
use Rattle.proof_strategies.specs.Private.{HasGrown, HaveGrown, IsPut, WasTried}
use Rattle.proof_strategies.proofs.Grown.{child_at, child_nodes, children_apply, children_nodes, each_length, grown_all, grown_more, grown_node, grown_none, leaf_grown, leaf_put}
use Rattle.proof_strategies.proofs.growing.+grow.Goals as goal

pub grow-grow_each-requires : goal.grow-grow_each-requires
grow-grow_each-requires g t c κs within =
    let parts = children_apply c.args.tree.now c.in-Node.rule c.in-Node.children c.args.sequent.now c.in-Node.is c.requires.applies in
    let nodes = children_nodes c.args.tree.now c.in-Node.rule c.in-Node.children c.args.sequent.now c.in-Node.is in
    let same = ap (λ ts. sum (map node_count ts)) c.items.ensures in
    let each = subst (λ xs. EachApplies xs c.items-antecedents.result.now c.args.sequent.now) (sym c.items.ensures)
    (subst (λ xs. EachApplies c.in-Node.children xs c.args.sequent.now) (sym c.items-antecedents.ensures) parts.0) in
    let distinct = subst HaveDistinctIdentifiers (sym c.items-antecedents.ensures) parts.1 in
    (omega (arith, c.decreases, nodes, same), (search (rules, within), (each, (distinct, c.requires.most))))

pub grow-returns-in_ok-rule-in-Node : goal.grow-returns-in_ok-rule-in-Node
grow-returns-in_ok-rule-in-Node g t c =
    let each = subst (λ xs. HaveGrown (g.S.Strategy.gives c.args.grower.now.strategy.now) c.args.grower.now.times xs c.items-antecedents.result.now c.args.sequent.now c.args.room.now c.in_ok-grown-in-Node.grown c.grow_each.new.room)
    c.items.ensures c.in_ok-grown-in-Node.ensures in
    let below = subst (λ xs. HaveGrown (g.S.Strategy.gives c.args.grower.now.strategy.now) c.args.grower.now.times c.in-Node.children xs c.args.sequent.now c.args.room.now c.in_ok-grown-in-Node.grown c.grow_each.new.room)
    c.items-antecedents.ensures each in
    subst (λ r. HasGrown (g.S.Strategy.gives c.args.grower.now.strategy.now) c.args.grower.now.times c.args.tree.now c.args.sequent.now c.args.room.now (Node r c.in_ok-grown-in-Node.grown) c.grow_each.new.room)
    (sym c.in_ok-rule-in-Node.ensures.copy)
    (grown_node (g.S.Strategy.gives c.args.grower.now.strategy.now) c.args.grower.now.times c.args.tree.now c.in-Node.rule c.in-Node.children c.in_ok-grown-in-Node.grown c.args.sequent.now c.args.room.now c.grow_each.new.room
    c.in-Node.is c.requires.applies below)

pub grow_each-loop-i-init : goal.grow_each-loop-i-init
grow_each-loop-i-init g t c =
    subst (λ xs. HaveGrown (g.S.Strategy.gives c.args.grower.now.strategy.now) c.args.grower.now.times [] [] c.args.sequent.now c.args.room.now xs c.args.room.now) (sym c.new-grown.ensures.items)
    (grown_none (g.S.Strategy.gives c.args.grower.now.strategy.now) c.args.grower.now.times c.args.sequent.now c.args.room.now)

pub grow_each-bounds-antecedents-i : goal.grow_each-bounds-antecedents-i
grow_each-bounds-antecedents-i g t c = omega (arith, c.loop-i-test.true, each_length c.args.trees.now c.args.antecedents.now c.args.sequent.now c.requires.apply)

pub grow_each-grow_below-requires : goal.grow_each-grow_below-requires
grow_each-grow_below-requires g t c κs within =
    let at = child_at c.args.trees.now c.args.antecedents.now c.args.sequent.now c.loop-i.i c.index-trees-i.result _ c.index-antecedents-i.result _
    c.loop-i-test.true c.index-trees-i.is c.index-antecedents-i.is c.requires.apply c.requires.distinct in
    let nodes = child_nodes c.args.trees.now c.args.antecedents.now c.args.sequent.now c.loop-i.i c.index-trees-i.result _ c.index-antecedents-i.result _
    c.loop-i-test.true c.index-trees-i.is c.index-antecedents-i.is in (
      omega (arith, c.decreases, nodes, c.loop-i.invariant.less),
      (search (rules, within), (at.0, (at.1, (at.2, omega (arith, c.loop-i.invariant.less, c.requires.most))))),
    )

pub grow_each-loop-i-preserved : goal.grow_each-loop-i-preserved
grow_each-loop-i-preserved g t c =
    let at = child_at c.args.trees.now c.args.antecedents.now c.args.sequent.now c.loop-i.i c.index-trees-i.result _ c.index-antecedents-i.result _
    c.loop-i-test.true c.index-trees-i.is c.index-antecedents-i.is c.requires.apply c.requires.distinct in
    subst (λ xs. HaveGrown (g.S.Strategy.gives c.args.grower.now.strategy.now) c.args.grower.now.times (take (c.loop-i.i + 1) c.args.trees.now) (take (c.loop-i.i + 1) c.args.antecedents.now) c.args.sequent.now c.args.room.now xs c.grow_below.new.room)
    (sym c.in_ok-push.ensures.items)
    (grown_more (g.S.Strategy.gives c.args.grower.now.strategy.now) c.args.grower.now.times c.args.trees.now c.args.antecedents.now c.args.sequent.now c.loop-i.i c.index-trees-i.result _ c.index-antecedents-i.result _
    c.args.room.now c.loop-i.room c.grow_below.new.room c.loop-i.grown.items c.in_ok-tree.tree
    c.loop-i-test.true (each_length c.args.trees.now c.args.antecedents.now c.args.sequent.now c.requires.apply) c.index-trees-i.is c.index-antecedents-i.is
    c.loop-i.invariant at.0 c.in_ok-tree.ensures)

pub grow_each-returns : goal.grow_each-returns
grow_each-returns g t c =
    subst (λ xs. HaveGrown (g.S.Strategy.gives c.args.grower.now.strategy.now) c.args.grower.now.times c.args.trees.now c.args.antecedents.now c.args.sequent.now c.args.room.now xs c.loop-i.room) (sym c.of.ensures)
    (grown_all (g.S.Strategy.gives c.args.grower.now.strategy.now) c.args.grower.now.times c.args.trees.now c.args.antecedents.now c.args.sequent.now c.loop-i.i c.args.room.now c.loop-i.room c.loop-i.grown.items
    c.loop-i-test.false c.requires.apply c.loop-i.invariant)

pub grow_leaf-returns-in-Once : goal.grow_leaf-returns-in-Once
grow_leaf-returns-in-Once g t c =
    let put : IsPut (g.S.Strategy.gives c.args.grower.now.strategy.now) c.args.sequent.now c.args.room.now c.in-Some.tree c.tried.new.room =
    subst (λ o. WasTried (g.S.Strategy.gives c.args.grower.now.strategy.now) c.args.sequent.now c.args.room.now o c.tried.new.room) c.in-Some.is c.in_ok-tree.ensures in
    leaf_put (g.S.Strategy.gives c.args.grower.now.strategy.now) c.args.grower.now.times c.args.sequent.now c.args.room.now c.tried.new.room c.in-Some.tree put c.in-Once.is

pub grow_leaf-returns-in-Again : goal.grow_leaf-returns-in-Again
grow_leaf-returns-in-Again g t c =
    let put : IsPut (g.S.Strategy.gives c.args.grower.now.strategy.now) c.args.sequent.now c.args.room.now c.in-Some.tree c.tried.new.room =
    subst (λ o. WasTried (g.S.Strategy.gives c.args.grower.now.strategy.now) c.args.sequent.now c.args.room.now o c.tried.new.room) c.in-Some.is c.in_ok-tree.ensures in
    IfOk-weaker c.grow.result _ _
    (λ new h. leaf_grown (g.S.Strategy.gives c.args.grower.now.strategy.now) c.args.grower.now.times c.args.sequent.now c.args.room.now c.tried.new.room c.in-Some.tree put new c.grow.new.room c.in-Again.is h)
    c.grow.ensures
