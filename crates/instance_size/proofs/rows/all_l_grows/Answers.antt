use Rattle.std.proofs.Common.{◌∙◌, sym, ap}
use Rattle.instance_size.specs.Private.{exceeds, is_excessive}
use Rattle.instance_size.proofs.GrowingRows.{all_l_adds, all_l_asks}
use Rattle.instance_size.proofs.rows.all_l_grows.Goals as goal

pub returns-then-is_excessive : goal.returns-then-is_excessive
returns-then-is_excessive c = λ e.
    all_l_asks c.args.room c.args.terms.now c.args.hyps.now c.in-Some.h.now (c.in-Some-one_bound.types.now, c.in-Some-one_bound.p.now) (sym c.in-Some.ensures) (sym c.in-Some-one_bound.ensures.parts)
    (sym c.have_types.ensures ∙ c.if-not-have_types.false) (ap (is_excessive c.args.room) (sym c.wd_size_of_all.ensures.size) ∙ sym c.is_excessive.ensures ∙ c.if-is_excessive.true)

pub returns : goal.returns
returns c = λ e.
    all_l_adds c.args.room c.args.terms.now c.args.hyps.now c.in-Some.h.now (c.in-Some-one_bound.types.now, c.in-Some-one_bound.p.now) (sym c.in-Some.ensures) (sym c.in-Some-one_bound.ensures.parts)
    (sym c.have_types.ensures ∙ c.if-not-have_types.false) (ap (exceeds c.args.room) (sym c.in_ok-extent.ensures.extent) ∙ sym c.exceeds.ensures ∙ e)
