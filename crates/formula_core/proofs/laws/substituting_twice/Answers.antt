use Rattle.formula_core.proofs.SubstitutionLaws.{one_after_another}
use Rattle.formula_core.proofs.laws.substituting_twice.Goals as goal

pub returns : goal.returns
returns c = one_after_another c.args.first.now c.args.second.now c.args.f.now
