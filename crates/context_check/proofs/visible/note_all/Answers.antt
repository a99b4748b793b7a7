use Rattle.std.proofs.Common.{◌≡◌, ◌&&◌, ◌||◌, not, bytes_eq, subst}
use Rattle.context_check.specs.Views.{placed, clashes}
use Rattle.context_check.proofs.Views.{none_before, any_more}
use Rattle.context_check.proofs.visible.note_all.Goals as goal

pub loop-pair-init : goal.loop-pair-init
loop-pair-init c = λ x o. none_before (clashes c.args.names.now x o)

pub loop-pair-preserved : goal.loop-pair-preserved
loop-pair-preserved c = λ x o.
    any_more (λ y. bytes_eq x y.0.0 && not (bytes_eq o y.1)) placed c.args.pairs.now c.loop-pair.pair-index c.pair-item.result (clashes c.args.names.now x o) (clashes c.loop-pair.names x o) (clashes c.note.new.names x o)
    c.loop-pair-test.true c.pair-item.is (c.loop-pair.invariant x o)
    (subst (λ origin. clashes c.note.new.names x o
    ≡ (clashes c.loop-pair.names x o || (bytes_eq x c.pair-item.result.0.now.0 && not (bytes_eq o origin)))) c.get.ensures
    (c.in_ok-note.ensures x o))
