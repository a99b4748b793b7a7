use Rattle.store_laws.proofs.Spelling.{one_spelling}
use Rattle.store_laws.proofs.laws.one_spelling.Goals as goal

pub returns : goal.returns
returns c = one_spelling
