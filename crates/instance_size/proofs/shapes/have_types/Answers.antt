use Rattle.std.proofs.Common.{◌≡◌, ◌∙◌, sym, drop, length, arith}
use Rattle.rule_table.specs.Rows.{have_types}
use Rattle.rules_logic.proofs.Terms.{at_end}
use Rattle.instance_size.proofs.shapes.have_types.Goals as goal

pub returns : goal.returns
returns c =
    let end : length c.args.terms.now ≡ c.loop-i.i = omega (arith, c.loop-i-test.false, c.loop-i.auto.i-end) in
    sym (at_end c.args.terms.now c.args.types.now) ∙ (λ j. have_types (drop (end j) c.args.terms.now) (drop (end j) c.args.types.now)) ∙ c.loop-i.invariant
