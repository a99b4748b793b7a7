use Rattle.formula_core.proofs.RenumberedWell.{shifted_keeps_well}
use Rattle.formula_core.proofs.laws.shifting_keeps_well.Goals as goal

pub returns : goal.returns
returns c = λ inner new bound h. shifted_keeps_well new c.args.f.now inner bound h
