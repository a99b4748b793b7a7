use Rattle.build_core.proofs.Tables.{one_list_of_warnings}
use Rattle.build_core.proofs.laws.one_list_of_warnings.Goals as goal

pub returns : goal.returns
returns c = one_list_of_warnings
