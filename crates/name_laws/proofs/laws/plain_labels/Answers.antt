use Rattle.name_laws.proofs.Texts.{labels_are_plain}
use Rattle.name_laws.proofs.laws.plain_labels.Goals as goal

pub returns : goal.returns
returns c = labels_are_plain
