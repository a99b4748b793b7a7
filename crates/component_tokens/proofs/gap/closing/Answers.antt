use Rattle.std.proofs.Common.{◌∙◌, sym, ap, length, arith, ◌<◌}
use Rattle.std.proofs.lemmas.List.{take_rest}
use Rattle.component_tokens.specs.Gaps.{closes}
use Rattle.component_tokens.proofs.Gaps.{closing_later}
use Rattle.component_tokens.proofs.gap.closing.Goals as goal

pub loop-i-preserved : goal.loop-i-preserved
loop-i-preserved c =
    let inside : c.loop-i.i < length c.args.bytes.now = omega arith in
    c.loop-i.invariant
    ∙ closing_later c.args.bytes.now c.loop-i.i inside (ap closes (sym (take_rest c.args.bytes.now c.loop-i.i)) ∙ sym c.closes.ensures ∙ c.if-closes.false)
