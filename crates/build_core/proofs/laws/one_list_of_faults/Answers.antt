use Rattle.build_core.proofs.Tables.{one_list_of_faults}
use Rattle.build_core.proofs.laws.one_list_of_faults.Goals as goal

pub returns : goal.returns
returns c = one_list_of_faults
