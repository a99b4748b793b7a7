use Rattle.std.proofs.Common.{◌≡◌, ◌∙◌, sym, ap, subst, refl, [], ◌∷◌}
use Rattle.rule_table.specs.declared.kind.RuleKind.TheVariants as kind
use Rattle.rule_table.specs.Rows.{adds, backward, both, forward, proves}
use Rattle.rule_table.specs.Rules.{IsSound}
use Rattle.rule_table.specs.Shapes.{bottom}
use Rattle.well_defined.specs.Predicates.{top}
use Rattle.short_proofs.proofs.Built.{sound_as, truth_is_sound}
use Rattle.short_proofs.proofs.logic.truth.Goals as goal

pub rule_of-requires : goal.rule_of-requires
rule_of-requires c =
    let body = c.in_ok-body.ensures.body ∙ (λ i. backward (c.top.ensures.formula i) (c.none_left.ensures.left i)) in
    record { sound = sound_as kind.Top (backward top []) c.in_ok-body.body truth_is_sound body }
