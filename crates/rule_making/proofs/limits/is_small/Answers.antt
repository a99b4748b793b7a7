use Rattle.rule_making.proofs.SmallParts.{small_of_parts, parts_of_small}
use Rattle.rule_making.proofs.limits.is_small.Goals as goal

pub returns : goal.returns
returns c = (λ t. small_of_parts c.args.rule.now (c.has_small_parts.ensures.0 t), λ s. c.has_small_parts.ensures.1 (parts_of_small c.args.rule.now s))
