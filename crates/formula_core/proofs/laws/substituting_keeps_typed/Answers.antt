use Rattle.formula_core.proofs.TypedIn.{replaced_typed, replaced_type}
use Rattle.formula_core.proofs.laws.substituting_keeps_typed.Goals as goal

pub returns : goal.returns
returns c = λ old new replaces h. (replaced_typed old new c.args.pairs.now replaces c.args.f.now h, replaced_type old new c.args.pairs.now replaces c.args.f.now h)
