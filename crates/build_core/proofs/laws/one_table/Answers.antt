use Rattle.build_core.proofs.Tables.{one_table}
use Rattle.build_core.proofs.laws.one_table.Goals as goal

pub returns : goal.returns
returns c = one_table
