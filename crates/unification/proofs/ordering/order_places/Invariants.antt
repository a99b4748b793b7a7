use Rattle.unification.proofs.Walks.{Walking}
use Rattle.unification.proofs.ordering.order_places.Given as goal

abbrev pub invariant-loop-at : goal.invariant-loop-at
invariant-loop-at l = Walking l.nodes l.marks.items l.order.items l.at
