use Rattle.std.proofs.Common.{◌∙◌, sym, ap}
use Rattle.instance_size.specs.Private.{exceeds, is_excessive}
use Rattle.instance_size.proofs.GrowingRows.{ex_r_asks, ex_r_proves}
use Rattle.instance_size.proofs.rows.ex_r_grows.Goals as goal

pub returns-then-is_excessive : goal.returns-then-is_excessive
returns-then-is_excessive c = λ e.
    ex_r_asks c.args.room c.args.terms.now c.args.goal.now c.in-Some.g (c.in-Some-one_bound.types.now, c.in-Some-one_bound.p.now) c.in-Some.is (sym c.in-Some-one_bound.ensures.parts)
    (sym c.have_types.ensures ∙ c.if-not-have_types.false) (ap (is_excessive c.args.room) (sym c.wd_size_of_all.ensures.size) ∙ sym c.is_excessive.ensures ∙ c.if-is_excessive.true)

pub returns : goal.returns
returns c = λ e.
    ex_r_proves c.args.room c.args.terms.now c.args.goal.now c.in-Some.g (c.in-Some-one_bound.types.now, c.in-Some-one_bound.p.now) c.in-Some.is (sym c.in-Some-one_bound.ensures.parts)
    (sym c.have_types.ensures ∙ c.if-not-have_types.false) (ap (exceeds c.args.room) (sym c.in_ok-extent.ensures.extent) ∙ sym c.exceeds.ensures ∙ e)
