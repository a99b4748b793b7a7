use Rattle.math_print.proofs.Reread.{read_back}
use Rattle.math_print.proofs.laws.read_back.Goals as goal

pub returns : goal.returns
returns c = read_back
