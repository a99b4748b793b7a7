use Rattle.std.proofs.Common.{◌≡◌, ◌∙◌, sym, ap, Some}
use Rattle.rule_table.specs.Rows.{linear_step_of}
use Rattle.short_proofs.proofs.Steps.{step_sound, step_tree}
use Rattle.short_proofs.proofs.arithmetic.linear_tree.Goals as goal

pub rule_of-requires : goal.rule_of-requires
rule_of-requires c =
    let found = ap (λ ks. linear_step_of ks c.args.hyps.now c.args.goal.now) (sym c.items.ensures) ∙ sym c.in_ok-body.ensures.row ∙ c.in-Some.is in
    record { sound = step_sound c.args.multipliers c.args.hyps.now c.args.goal.now c.in-Some.body found c.requires.sound }

pub returns : goal.returns
returns c =
    let found = ap (λ ks. linear_step_of ks c.args.hyps.now c.args.goal.now) (sym c.items.ensures) ∙ sym c.in_ok-body.ensures.row ∙ c.in-Some.is in
    record { tree = step_tree c.args.multipliers c.args.hyps.now c.args.goal.now c.in-Some.body c.in_ok-rule.rule c.alone.result found c.in_ok-rule.ensures.rule c.alone.ensures.tree }
