use Rattle.type_formula.proofs.Standing.{predicates_stand}
use Rattle.type_formula.proofs.laws.typed_predicates_stand.Goals as goal

pub returns : goal.returns
returns c = predicates_stand
