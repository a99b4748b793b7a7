use Rattle.formula_core.proofs.TypedIn.{instantiated_typed}
use Rattle.formula_core.proofs.laws.instantiating_keeps_typed.Goals as goal

pub returns : goal.returns
returns c = instantiated_typed c.args.f.now c.args.terms.now
