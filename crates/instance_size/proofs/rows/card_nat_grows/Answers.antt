use Rattle.std.proofs.Common.{◌∙◌, sym, ap}
use Rattle.instance_size.specs.Private.{is_excessive}
use Rattle.instance_size.proofs.GrowingRows.{card_nat_is}
use Rattle.instance_size.proofs.rows.card_nat_grows.Goals as goal

pub returns : goal.returns
returns c = λ e. card_nat_is c.args.room c.args.chosen.now c.in-Some.s c.in-Some-member_type.field-0.now c.in-Some.is (sym c.in-Some-member_type.ensures)
    (ap (is_excessive c.args.room) (sym c.wd_size.ensures.size) ∙ sym c.is_excessive.ensures ∙ e)
