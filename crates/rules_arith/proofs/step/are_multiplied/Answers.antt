use Rattle.std.proofs.Common.{◌≡◌, ◌∙◌, sym, drop, length, arith}
use Rattle.rule_table.specs.Linear.{are_multiplied}
use Rattle.rules_arith.proofs.Steps.{multiplied_at_end}
use Rattle.rules_arith.proofs.step.are_multiplied.Goals as goal

pub returns : goal.returns
returns c =
    let end : length c.args.hyps.now ≡ c.loop-i.i = omega (arith, c.loop-i-test.false, c.loop-i.auto.i-end) in
    sym (multiplied_at_end c.args.hyps.now c.args.multipliers.now) ∙ (λ j. are_multiplied (drop (end j) c.args.hyps.now) (drop (end j) c.args.multipliers.now)) ∙ c.loop-i.invariant
