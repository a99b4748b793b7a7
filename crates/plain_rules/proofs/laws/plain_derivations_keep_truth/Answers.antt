use Rattle.formula_readings.specs.Readings.{values_of}
use Rattle.rule_table.specs.Rules.{body_of}
use Rattle.plain_rules.proofs.Derivations.{derived_is_true}
use Rattle.plain_rules.proofs.PlainRules.{plain_keeps}
use Rattle.plain_rules.proofs.laws.plain_derivations_keep_truth.Goals as goal

pub returns : goal.returns
returns c = λ tree s derives plain r.
    derived_is_true (values_of r) (λ rule is p. plain_keeps (values_of r) rule.kind (body_of rule) is.instance p) tree s derives plain
