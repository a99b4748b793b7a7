use Rattle.std.proofs.Common.{[], refl}
use Rattle.context_check.proofs.Typings.{typed_so_far}
use Rattle.context_check.proofs.typing.type_all.Goals as goal

pub loop-written-init : goal.loop-written-init
loop-written-init c = ([], (c.new-typed.ensures.items, refl, refl), refl)

pub loop-written-preserved : goal.loop-written-preserved
loop-written-preserved c =
    typed_so_far c.args.component.now c.args.wanted.now c.args.env.now c.args.labelled.now c.loop-written.written-index c.written-item.result c.loop-written-test.true c.written-item.is
    c.in_ok-one.one c.loop-written.typed.items c.keep.new.typed.items c.loop-written.first c.in_ok-first.first c.loop-written.env c.type_one.new.env
    c.in_ok-one.ensures c.in_ok-first.ensures c.loop-written.invariant
