use Rattle.std.proofs.Common.{◌≡◌, ◌∙◌, sym, ap, subst, refl, [], ◌∷◌}
use Rattle.rule_table.specs.declared.kind.RuleKind.TheVariants as kind
use Rattle.rule_table.specs.Rows.{adds, backward, both, forward, proves}
use Rattle.rule_table.specs.Rules.{IsSound, rule_of}
use Rattle.rule_table.specs.Shapes.{bottom}
use Rattle.well_defined.specs.Predicates.{top}
use Rattle.short_proofs.specs.Short.{IsShortProof}
use Rattle.short_proofs.proofs.Built.{weaker, whole_as}
use Rattle.short_proofs.proofs.Forms.{whole_sound}
use Rattle.short_proofs.proofs.logic.by_whole.Goals as goal

pub goal_by_law-requires : goal.goal_by_law-requires
goal_by_law-requires c =
    record { sound = subst (λ f. IsSound (kind.RwGoal 55 []) (backward c.args.sequent.now.goal (proves f ∷ []))) (sym c.top.ensures.formula) (whole_sound c.args.sequent.now c.requires.sequent c.requires.small c.requires.form) }

pub returns : goal.returns
returns c =
    let rule = c.in_ok-rule.ensures.rule ∙ ap (λ f. rule_of (kind.RwGoal 55 []) (backward c.args.sequent.now.goal (proves f ∷ []))) c.top.ensures.formula in
    record { short = weaker c.above.result (λ t e. whole_as c.args.sequent.now c.requires.sequent c.requires.small c.requires.form c.in_ok-rule.rule c.in_ok-truth.field-0 t rule c.in_ok-truth.ensures.tree e) c.above.ensures.tree }
