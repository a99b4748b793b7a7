use Rattle.formula_parse.proofs.Place.{one_tree}
use Rattle.formula_parse.proofs.laws.one_formula.Goals as goal

pub returns : goal.returns
returns c = one_tree
