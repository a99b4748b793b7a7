use Rattle.std.proofs.Common.{[], refl}
use Rattle.context_check.proofs.Typings.{steps_so_far}
use Rattle.context_check.proofs.typing.type_actions.Goals as goal

pub loop-step-init : goal.loop-step-init
loop-step-init c = ([], (c.new-typed.ensures.items, refl), refl)

pub loop-step-preserved : goal.loop-step-preserved
loop-step-preserved c =
    steps_so_far c.args.component.now c.args.env.now c.args.steps.now c.loop-step.step-index c.step-item.result c.loop-step-test.true c.step-item.is
    c.in_ok-one.one c.loop-step.typed.items c.keep.new.typed.items c.loop-step.first c.in_ok-first.first c.in_ok-one.ensures c.in_ok-first.ensures c.loop-step.invariant
