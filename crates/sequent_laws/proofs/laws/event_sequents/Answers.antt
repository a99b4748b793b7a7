use Rattle.sequent_laws.proofs.Tables.{row_is}
use Rattle.sequent_laws.proofs.laws.event_sequents.Goals as goal

pub returns : goal.returns
returns c = row_is
