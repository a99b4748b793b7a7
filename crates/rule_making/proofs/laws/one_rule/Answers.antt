use Rattle.rule_making.proofs.OneRule.{answers_are_one}
use Rattle.rule_making.proofs.laws.one_rule.Goals as goal

pub returns : goal.returns
returns c = answers_are_one
