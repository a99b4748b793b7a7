use Rattle.formula_core.proofs.SameFormulas.{action_test}
use Rattle.formula_core.proofs.raw.Action.same.Goals as goal

pub returns-clause-test : goal.returns-clause-test
returns-clause-test c = action_test c.has_same_parts.result c.args.self.now c.args.other.now c.has_same_parts.ensures
