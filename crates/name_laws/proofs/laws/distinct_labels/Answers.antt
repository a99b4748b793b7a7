use Rattle.name_laws.proofs.Checked.{checked_labels}
use Rattle.name_laws.proofs.laws.distinct_labels.Goals as goal

pub returns : goal.returns
returns c = checked_labels
