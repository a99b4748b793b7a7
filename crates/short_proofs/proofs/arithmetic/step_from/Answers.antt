use Rattle.std.proofs.Common.{◌≡◌, ◌∙◌, sym, ap, [], ◌∷◌}
use Rattle.std.proofs.Math.Facts.{to_z-of_z}
use Rattle.rule_table.specs.Linear.{may_be_multiplied, shape}
use Rattle.short_proofs.proofs.Steps.{listed_sound, no_tree}
use Rattle.short_proofs.proofs.arithmetic.step_from.Goals as goal

pub linear_tree-requires : goal.linear_tree-requires
linear_tree-requires c =
    record { sound = listed_sound (c.args.multiplier ∷ []) c.in_ok-by.by c.from_ref.result.now c.args.used.now c.args.goal.now c.from_ref.ensures.value c.requires.sound }

pub returns-then-not-may_be_multiplied : goal.returns-then-not-may_be_multiplied
returns-then-not-may_be_multiplied c =
    let number = ap (λ k. may_be_multiplied (shape c.args.used.now) k) (sym (to_z-of_z c.ranges.multiplier)) in
    record { tree = no_tree c.args.multiplier c.args.used.now c.args.goal.now (number ∙ sym c.may_be_multiplied.ensures ∙ c.if-not-may_be_multiplied.true) }
