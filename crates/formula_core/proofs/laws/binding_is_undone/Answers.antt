use Rattle.formula_core.proofs.BindingLaw.{given_back}
use Rattle.formula_core.proofs.laws.binding_is_undone.Goals as goal

pub returns : goal.returns
returns c = given_back c.args.identifiers.now c.args.f.now
