use Rattle.std.proofs.Common.{◌≡◌, ◌∙◌, sym, ap, subst, refl, [], ◌∷◌}
use Rattle.rule_table.specs.declared.kind.RuleKind.TheVariants as kind
use Rattle.rule_table.specs.Rows.{adds, backward, both, forward, proves}
use Rattle.rule_table.specs.Rules.{IsSound}
use Rattle.rule_table.specs.Shapes.{bottom}
use Rattle.well_defined.specs.Predicates.{top}
use Rattle.short_proofs.proofs.Built.{short_as, sound_as}
use Rattle.short_proofs.proofs.Forms.{reflexive_sound, reflexive_proof}
use Rattle.short_proofs.proofs.logic.by_reflexivity.Goals as goal

pub rule_of-requires : goal.rule_of-requires
rule_of-requires c =
    let body = c.in_ok-body.ensures.body ∙ ap (backward c.args.sequent.now.goal) c.none_left.ensures.left in
    record { sound = sound_as kind.EqRefl (backward c.args.sequent.now.goal []) c.in_ok-body.body (reflexive_sound c.args.sequent.now c.requires.sequent c.requires.small) body }

pub returns : goal.returns
returns c =
    let body = c.in_ok-body.ensures.body ∙ ap (backward c.args.sequent.now.goal) c.none_left.ensures.left in
    record { short = short_as c.args.sequent.now kind.EqRefl (backward c.args.sequent.now.goal []) c.in_ok-body.body c.in_ok-rule.rule c.alone.result (reflexive_proof c.args.sequent.now c.requires.sequent c.requires.small c.requires.form) body c.in_ok-rule.ensures.rule c.alone.ensures.tree }
