use Rattle.name_laws.proofs.Obligations.{distinct_names}
use Rattle.name_laws.proofs.laws.distinct_names.Goals as goal

pub returns : goal.returns
returns c = distinct_names
