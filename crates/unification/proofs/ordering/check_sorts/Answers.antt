use Rattle.std.proofs.Common.{◌≡◌, ◌<◌, true, refl, ◌∙◌, arith}
use Rattle.unification.specs.PrivateOrder.{ordered_at, sort_of}
use Rattle.unification.proofs.Forms.{read}
use Rattle.unification.proofs.Sorts.{Sorting-step, all_sorts, wrong_sort}
use Rattle.unification.proofs.ordering.check_sorts.Goals as goal
use Rattle.unification.proofs.ordering.check_sorts.Goals.{else-at-count-via-then-at-count+else-not-sort, else-at-count-via-else-at-count}

pub loop-at-preserved : goal.loop-at-preserved
loop-at-preserved c =
    let right : ordered_at c.args.order.now c.loop-at.at-index < c.args.count → c.is_proper-sort.result ≡ true =
    elim c.else-at-count.branch [
      | else-at-count-via-then-at-count+else-not-sort w ↦ λ _. w.if-not-sort.false
      | else-at-count-via-else-at-count w ↦ λ less. absurd (omega (arith, less, w.if-at-count.false))
    ] in
    Sorting-step _ _ _ _ _ _ c.is_proper-sort.result c.requires.order.ordered c.loop-at-test.true c.loop-at.invariant (c.is_proper-sort.ensures ∙ (λ i. sort_of (c.deref.ensures.value i) ((read c.args.nodes.now _ _ (c.requires.order.ordered.inside c.loop-at.at-index c.loop-at-test.true) c.index-nodes-at.is) i))) right refl

pub returns-clause-sorts : goal.returns-clause-sorts
returns-clause-sorts c = all_sorts _ _ _ _ c.loop-at.at-index c.requires.order c.requires.count c.loop-at-test.false c.loop-at.invariant

pub returns-then-not-sort-clause-refused : goal.returns-then-not-sort-clause-refused
returns-then-not-sort-clause-refused c _ =
    wrong_sort _ _ _ _ c.loop-at.at-index c.is_proper-sort.result c.requires.order.ordered c.loop-at-test.true c.loop-at.invariant (c.is_proper-sort.ensures ∙ (λ i. sort_of (c.deref.ensures.value i) ((read c.args.nodes.now _ _ (c.requires.order.ordered.inside c.loop-at.at-index c.loop-at-test.true) c.index-nodes-at.is) i))) c.if-not-sort.true c.if-at-count.true
