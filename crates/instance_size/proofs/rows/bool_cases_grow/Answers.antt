use Rattle.std.proofs.Common.{◌∙◌, sym, ap}
use Rattle.instance_size.specs.Private.{is_excessive}
use Rattle.instance_size.proofs.GrowingRows.{bool_cases_are}
use Rattle.instance_size.proofs.rows.bool_cases_grow.Goals as goal

pub returns : goal.returns
returns c = λ e. bool_cases_are c.args.room c.args.chosen.now c.in-Some.e c.in-Some.is (sym c.is_boolean.ensures ∙ c.if-not-is_boolean.false)
    (ap (is_excessive c.args.room) (sym c.wd_size.ensures.size) ∙ sym c.is_excessive.ensures ∙ e)
