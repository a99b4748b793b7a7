use Rattle.std.proofs.Common.{sym, ◌∙◌, subst}
use Rattle.unification.proofs.Walks.{Walking, above_closed, Walking-start, all_models}
use Rattle.unification.proofs.ordering.order_places.Goals as goal

pub visit-requires-clause-marked : goal.visit-requires-clause-marked
visit-requires-clause-marked c = c.loop-at.marks.ok.0 ∙ c.loop-at.invariant.long

pub visit-requires-clause-walk : goal.visit-requires-clause-walk
visit-requires-clause-walk c = c.loop-at.invariant.walk

pub visit-requires-clause-above : goal.visit-requires-clause-above
visit-requires-clause-above c = above_closed _ _ _ c.loop-at.invariant.closed

pub loop-at-init : goal.loop-at-init
loop-at-init c =
    subst (λ order. Walking c.args.nodes.now c.in_ok-marks.marks.items order 0) (sym c.new-order.ensures.items)
    (Walking-start c.args.nodes.now c.in_ok-marks.marks.items (sym c.in_ok-marks.marks.ok.0 ∙ c.in_ok-marks.ensures.long) c.in_ok-marks.ensures.unmarked)

pub returns-clause-models : goal.returns-clause-models
returns-clause-models c = all_models _ _ _ c.loop-at.at c.loop-at.invariant c.loop-at-test.false
