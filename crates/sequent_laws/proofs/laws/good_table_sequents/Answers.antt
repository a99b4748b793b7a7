use Rattle.sequent_laws.proofs.Tables.{table_is}
use Rattle.sequent_laws.proofs.laws.good_table_sequents.Goals as goal

pub returns : goal.returns
returns c = table_is
