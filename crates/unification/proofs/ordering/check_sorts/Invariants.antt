use Rattle.unification.proofs.Sorts.{Sorting}
use Rattle.unification.proofs.ordering.check_sorts.Given as goal

abbrev pub invariant-loop-at : goal.invariant-loop-at
invariant-loop-at l = Sorting l.nodes l.order l.count l.sorts.items l.at-index
