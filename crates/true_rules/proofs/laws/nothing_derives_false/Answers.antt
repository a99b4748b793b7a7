use Rattle.true_rules.proofs.Theorem.{bottom_is_underived}
use Rattle.true_rules.proofs.laws.nothing_derives_false.Goals as goal

-- src/laws.rt:12:1
pub returns : goal.returns
returns c = bottom_is_underived
