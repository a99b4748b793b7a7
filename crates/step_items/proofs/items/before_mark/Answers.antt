use Rattle.std.proofs.Common.{◌∙◌, sym, ap}
use Rattle.std.proofs.lemmas.List.{take_rest}
use Rattle.step_items.specs.Private.{is_marked}
use Rattle.step_items.proofs.Marks.{one_behind}
use Rattle.step_items.proofs.items.before_mark.Goals as goal

pub loop-at-preserved : goal.loop-at-preserved
loop-at-preserved c =
    one_behind c.args.bytes.now c.loop-at.at c.loop-at-test.true
    (ap is_marked (sym (take_rest c.args.bytes.now c.loop-at.at)) ∙ sym c.is_marked.ensures ∙ c.if-is_marked.false) c.loop-at.invariant
