use Rattle.std.proofs.Common.{◌∙◌, sym, ap}
use Rattle.instance_size.specs.Private.{is_excessive}
use Rattle.instance_size.proofs.GrowingRows.{fun_in_is}
use Rattle.instance_size.proofs.rows.fun_in_grows.Goals as goal

pub returns : goal.returns
returns c = λ e. fun_in_is c.args.room c.args.hyps.now c.args.chosen.now c.in-Some.h.now c.in-Some-chosen.e (c.in-Some-function_in.f.now, c.in-Some-function_in.field-0-1.now)
    (c.in-Some-relation_types.from.now, c.in-Some-relation_types.field-0-1.now) (sym c.in-Some.ensures) c.in-Some-chosen.is (sym c.in-Some-function_in.ensures)
    (sym c.in-Some-relation_types.ensures) (sym c.has_type.ensures ∙ c.if-not-has_type.false) (ap (is_excessive c.args.room) (sym c.wd_size.ensures.size) ∙ sym c.is_excessive.ensures ∙ e)
