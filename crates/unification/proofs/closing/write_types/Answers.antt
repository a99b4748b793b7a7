use Rattle.std.proofs.Common.{sym, subst}
use Rattle.unification.proofs.Writes.{Writing, Writing-start, Writing-step}
use Rattle.unification.proofs.closing.write_types.Goals as goal

pub loop-place-init : goal.loop-place-init
loop-place-init c = subst (λ types. Writing c.args.nodes.now types 0) (sym c.new-types.ensures.items) (Writing-start c.args.nodes.now)

pub loop-place-preserved : goal.loop-place-preserved
loop-place-preserved c = Writing-step _ _ _ _ _ c.loop-place.invariant c.in_ok-type_at_place.ensures c.in_ok-push.ensures.items
