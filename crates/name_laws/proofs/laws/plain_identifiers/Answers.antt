use Rattle.name_laws.proofs.Texts.{names_are_plain}
use Rattle.name_laws.proofs.laws.plain_identifiers.Goals as goal

pub returns : goal.returns
returns c = names_are_plain
