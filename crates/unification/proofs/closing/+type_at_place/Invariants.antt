use Rattle.unification.proofs.Writes.{rank}
use Rattle.unification.proofs.closing.+type_at_place.Given as goal

-- the parts of a form come before it in the order
abbrev pub decreases-type_at_place : goal.decreases-type_at_place
decreases-type_at_place l = rank l.order.now l.place
