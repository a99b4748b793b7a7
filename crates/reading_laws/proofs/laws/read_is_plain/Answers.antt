use Rattle.reading_laws.proofs.Plain.{read_is_plain}
use Rattle.reading_laws.proofs.laws.read_is_plain.Goals as goal

pub returns : goal.returns
returns c = read_is_plain
