use Rattle.proof_codec.proofs.Assembly.{antecedent_read}
use Rattle.proof_codec.proofs.rule.AntecedentCoded.read.Goals as goal

pub returns : goal.returns
returns c = antecedent_read _ _ _ _ _ c.in_ok-idents.ensures
