use Rattle.math_places.proofs.Spelled.{spelled_again}
use Rattle.math_places.proofs.laws.spelled_at_other_places.Goals as goal

pub returns : goal.returns
returns c = spelled_again
