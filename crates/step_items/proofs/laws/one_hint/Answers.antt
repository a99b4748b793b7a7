use Rattle.step_items.proofs.OneWay.{OneReading, one_hint}
use Rattle.step_items.proofs.laws.one_hint.Goals as goal

pub returns : goal.returns
returns c = let laws : OneReading = record { cut = c.cut_one_way.ensures; formula = c.one_formula.ensures } in one_hint laws
