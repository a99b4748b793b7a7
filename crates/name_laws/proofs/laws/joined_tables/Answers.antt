use Rattle.name_laws.proofs.Tables.{joined_tables}
use Rattle.name_laws.proofs.laws.joined_tables.Goals as goal

pub returns : goal.returns
returns c = joined_tables
