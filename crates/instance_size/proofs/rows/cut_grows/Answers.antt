use Rattle.std.proofs.Common.{◌∙◌, sym, ap}
use Rattle.instance_size.specs.Private.{is_excessive}
use Rattle.instance_size.proofs.GrowingRows.{cut_is}
use Rattle.instance_size.proofs.rows.cut_grows.Goals as goal

pub returns : goal.returns
returns c = λ e. cut_is c.args.room c.args.chosen.now c.in-Some.p c.in-Some.is (sym c.is_predicate.ensures ∙ c.if-not-is_predicate.false)
    (ap (is_excessive c.args.room) (sym c.wd_size.ensures.size) ∙ sym c.is_excessive.ensures ∙ e)
