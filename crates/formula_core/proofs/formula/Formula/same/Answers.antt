use Rattle.formula_core.proofs.SameFormulas.{formula_test}
use Rattle.formula_core.proofs.formula.Formula.same.Goals as goal

pub returns-clause-test : goal.returns-clause-test
returns-clause-test c = formula_test c.is_same.result c.args.self.now c.args.other.now c.is_same.ensures
