use Rattle.sequent_laws.proofs.Components.{typed_table_is}
use Rattle.sequent_laws.proofs.laws.table_sequents.Goals as goal

pub returns : goal.returns
returns c = typed_table_is
