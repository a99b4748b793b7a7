use Rattle.raw_print.proofs.Spelled.{spelled_again}
use Rattle.raw_print.proofs.laws.printed_is_spelled.Goals as goal

pub returns : goal.returns
returns c = λ limit h s r whole all k. spelled_again limit h s r whole k all
