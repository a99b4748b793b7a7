use Rattle.unification.proofs.Walks.{count_new}
use Rattle.unification.proofs.ordering.+visit.Given as goal

-- each visit that goes on makes one place less a new one
abbrev pub decreases-visit : goal.decreases-visit
decreases-visit l = count_new l.marks.now.items
