use Rattle.typed_tables.proofs.Verdicts.{table_sequents}
use Rattle.typed_tables.proofs.laws.typed_tables.Goals as goal

pub returns : goal.returns
returns c = table_sequents
