use Rattle.type_formula.proofs.Standing.{formulas_stand}
use Rattle.type_formula.proofs.laws.typed_formulas_stand.Goals as goal

pub returns : goal.returns
returns c = formulas_stand
