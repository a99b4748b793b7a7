use Rattle.formula_values.proofs.Once.{one_meaning}
use Rattle.formula_values.proofs.laws.a_formula_has_one_meaning.Goals as goal

pub returns : goal.returns
returns c = one_meaning
