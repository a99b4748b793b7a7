use Rattle.token_text.proofs.Cutting.{spaced_cut}
use Rattle.token_text.proofs.laws.spaced_is_cut.Goals as goal

pub returns : goal.returns
returns c = spaced_cut
