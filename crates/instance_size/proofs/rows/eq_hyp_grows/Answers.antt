use Rattle.std.proofs.Common.{◌∙◌, sym, ap}
use Rattle.instance_size.specs.Private.{exceeds}
use Rattle.instance_size.proofs.GrowingRows.{eq_hyp_is}
use Rattle.instance_size.proofs.rows.eq_hyp_grows.Goals as goal

pub returns : goal.returns
returns c = λ e. eq_hyp_is c.args.room c.args.hyps.now c.in-Some.h.now c.in-Some.k.now (c.in-Some-two_operands.e.now, c.in-Some-two_operands.f.now)
    (sym c.in-Some.ensures) (sym c.in-Some-two_operands.ensures.parts) (ap (exceeds c.args.room) (sym c.replaced_extent.ensures.extent) ∙ sym c.exceeds.ensures ∙ e)
