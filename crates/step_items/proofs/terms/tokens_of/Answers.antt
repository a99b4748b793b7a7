use Rattle.step_items.proofs.Cutting.{bad_sign, too_wide}
use Rattle.step_items.proofs.terms.tokens_of.Goals as goal

pub returns-in-Err-BadSign : goal.returns-in-Err-BadSign
returns-in-Err-BadSign c =
    bad_sign c.cut_one_way.ensures c.args.text.now c.in-Err-BadSign.field-0 c.in-Err-BadSign.field-0-0 c.in-Err-BadSign.field-0-is c.in-Err-BadSign.ensures

pub returns-in-Err-NumberTooWide : goal.returns-in-Err-NumberTooWide
returns-in-Err-NumberTooWide c =
    too_wide c.cut_one_way.ensures c.args.text.now c.in-Err-NumberTooWide.field-0 c.in-Err-NumberTooWide.field-0-0 c.in-Err-NumberTooWide.field-0-is c.in-Err-NumberTooWide.ensures
