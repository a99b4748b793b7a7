use Rattle.component_tokens.proofs.OneWay.{one_cut}
use Rattle.component_tokens.proofs.laws.pieces_one_way.Goals as goal

pub returns : goal.returns
returns c = λ text ts us o p. one_cut text 0 ts us o p
