use Rattle.formula_core.proofs.TypedIn.{exists_typed, forall_typed}
use Rattle.formula_core.proofs.laws.quantifying_keeps_typed.Goals as goal

pub returns-clause-exists : goal.returns-clause-exists
returns-clause-exists c = exists_typed c.args.identifiers.now c.args.f.now

pub returns-clause-for_all : goal.returns-clause-for_all
returns-clause-for_all c = forall_typed c.args.identifiers.now c.args.f.now
