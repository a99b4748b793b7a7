use Rattle.name_laws.proofs.Checked.{name_kept}
use Rattle.name_laws.proofs.laws.name_kept.Goals as goal

pub returns : goal.returns
returns c = name_kept
