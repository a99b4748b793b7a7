use Rattle.math_print.proofs.Back.{spelled}
use Rattle.math_print.proofs.laws.written_is_spelled.Goals as goal

pub returns : goal.returns
returns c = spelled
