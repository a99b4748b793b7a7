use Rattle.std.proofs.Common.{◌∙◌, sym, ap}
use Rattle.instance_size.specs.Private.{exceeds}
use Rattle.instance_size.proofs.GrowingRows.{eq_goal_is}
use Rattle.instance_size.proofs.rows.eq_goal_grows.Goals as goal

pub returns : goal.returns
returns c = λ e. eq_goal_is c.args.room c.args.goal.now c.args.hyps.now c.in-Some.g c.in-Some-first.h.now (c.in-Some-two_operands.e.now, c.in-Some-two_operands.f.now) c.in-Some.is
    (sym c.in-Some-first.ensures) (sym c.in-Some-two_operands.ensures.parts) (ap (exceeds c.args.room) (sym c.replaced_extent.ensures.extent) ∙ sym c.exceeds.ensures ∙ e)
