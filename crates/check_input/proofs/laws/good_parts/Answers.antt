use Rattle.check_input.proofs.Good.{parts_are_good}
use Rattle.check_input.proofs.laws.good_parts.Goals as goal

pub returns : goal.returns
returns c = parts_are_good
