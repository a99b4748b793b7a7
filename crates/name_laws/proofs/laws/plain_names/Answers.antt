use Rattle.name_laws.proofs.Checked.{checked_names}
use Rattle.name_laws.proofs.laws.plain_names.Goals as goal

pub returns : goal.returns
returns c = checked_names
