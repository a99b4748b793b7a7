use Rattle.proof_codec.proofs.Assembly.{proof_read}
use Rattle.proof_codec.proofs.entry.SecondVersion.proof.Goals as goal

pub returns : goal.returns
returns c = proof_read _ _ _ _ c.in_ok-origin.ensures
