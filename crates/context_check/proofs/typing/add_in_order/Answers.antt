use Rattle.context_check.proofs.Typings.{in_order_more}
use Rattle.context_check.proofs.typing.add_in_order.Goals as goal

pub loop-one-preserved : goal.loop-one-preserved
loop-one-preserved c = in_order_more c.args.env.now c.args.declared.now c.loop-one.one-index c.one-item.result c.args.entries.now.items c.loop-one.entries.items c.add_typed.new.entries.items
    c.loop-one-test.true c.one-item.is c.loop-one.invariant c.in_ok-add_typed.ensures
