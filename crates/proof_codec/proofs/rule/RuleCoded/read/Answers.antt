use Rattle.proof_codec.proofs.Assembly.{rule_read}
use Rattle.proof_codec.proofs.rule.RuleCoded.read.Goals as goal

pub returns : goal.returns
returns c = rule_read _ _ _ _ _ _ _ c.in_ok-kind.ensures
