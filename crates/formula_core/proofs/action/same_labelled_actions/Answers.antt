use Rattle.std.proofs.Common.{map}
use Rattle.formula_core.proofs.SameFormulas.{actions_test}
use Rattle.formula_core.proofs.action.same_labelled_actions.Goals as goal

pub returns : goal.returns
returns c = actions_test c.have_same_actions.result (map (λ a. a.1) c.args.one.now) (map (λ a. a.1) c.args.other.now) c.have_same_actions.ensures
