use Rattle.std.proofs.Common.{◌∙◌, ap}
use Rattle.instance_size.specs.Private.{widened}
use Rattle.instance_size.proofs.AllFit.{over_more}
use Rattle.instance_size.proofs.room.room_over.Goals as goal

pub loop-formula-preserved : goal.loop-formula-preserved
loop-formula-preserved c = c.widened-room.ensures ∙ ap (λ r. widened r c.formula-item.result) c.loop-formula.invariant
    ∙ over_more c.args.room c.args.formulas.now c.loop-formula.formula-index c.formula-item.result c.loop-formula-test.true c.formula-item.is
