use Rattle.std.proofs.Common.{◌∙◌, ◌+◌, ap, cond, Some, map, drop}
use Rattle.context_check.specs.Views.{placed, clashes}
use Rattle.context_check.specs.Private.{first_clashing}
use Rattle.context_check.proofs.Clashes.{clash_step}
use Rattle.context_check.proofs.visible.first_clash.Goals as goal

pub loop-pair-preserved : goal.loop-pair-preserved
loop-pair-preserved c =
    let clash = clashes c.args.names.now in
    c.loop-pair.invariant
    ∙ clash_step clash c.args.pairs.now c.loop-pair.pair-index c.pair-item.result c.is_clash.result c.loop-pair-test.true c.pair-item.is c.is_clash.ensures
    ∙ ap (λ b. cond b (Some c.pair-item.result.0.now.0) (first_clashing clash (map placed (drop (c.loop-pair.pair-index + 1) c.args.pairs.now)))) c.if-is_clash.false
