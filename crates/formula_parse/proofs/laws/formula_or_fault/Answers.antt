use Rattle.formula_parse.proofs.Readers.{decided}
use Rattle.formula_parse.proofs.Place.{reads_formulas}
use Rattle.formula_parse.proofs.laws.formula_or_fault.Goals as goal

pub returns : goal.returns
returns c = λ limit h s. decided (reads_formulas h) limit s
