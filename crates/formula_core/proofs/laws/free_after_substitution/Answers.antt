use Rattle.formula_core.proofs.SubstitutionLaws.{occurrences_after}
use Rattle.formula_core.proofs.laws.free_after_substitution.Goals as goal

pub returns : goal.returns
returns c = occurrences_after c.args.pairs.now c.args.f.now
