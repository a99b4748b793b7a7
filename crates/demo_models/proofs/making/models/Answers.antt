use Rattle.demo_models.proofs.Steps.{next_number_at, one_more_model}
use Rattle.demo_models.proofs.making.models.Goals as goal

pub loop-i-preserved : goal.loop-i-preserved
loop-i-preserved c =
    let number = next_number_at c.args.seed c.loop-i.i c.loop-i.number c.next_number-number.result c.loop-i.invariant.1 c.next_number-number.ensures in (
      one_more_model c.args.seed c.loop-i.i c.next_number-number.result c.loop-i.models.items _ _ _ _ number c.loop-i.invariant.0
          c.in_ok-push.ensures.items c.in_ok-push-2.ensures.items c.in_ok-context.ensures c.in_ok-machine.ensures,
      number,
    )
