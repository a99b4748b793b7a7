use Rattle.step_items.proofs.Digits.{grown}
use Rattle.step_items.proofs.numbers.value_of.Goals as goal

pub loop-digit-preserved : goal.loop-digit-preserved
loop-digit-preserved c =
    grown c.args.digits.now c.loop-digit.digit-index c.loop-digit.value c.saturating_mul.result c.saturating_sub.result c.saturating_add-value.result
    c.loop-digit-test.true c.loop-digit.invariant c.saturating_mul.ensures c.saturating_sub.ensures c.saturating_add-value.ensures
