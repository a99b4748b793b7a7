use Rattle.sequent_laws.proofs.GoodParts.{machine_has_good_parts}
use Rattle.sequent_laws.proofs.laws.good_parts.Goals as goal

pub returns : goal.returns
returns c = machine_has_good_parts
