use Rattle.check_input.proofs.Whole.{parts_make_the_input}
use Rattle.check_input.proofs.laws.whole_input.Goals as goal

pub returns : goal.returns
returns c = parts_make_the_input
