use Rattle.math_tokens.proofs.OneWay.{cut_is_one}
use Rattle.math_tokens.proofs.laws.cut_one_way.Goals as goal

pub returns : goal.returns
returns c = cut_is_one
