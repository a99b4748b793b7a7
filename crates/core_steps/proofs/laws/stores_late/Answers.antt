use Rattle.core_steps.proofs.Late.{stored_late}
use Rattle.core_steps.proofs.laws.stores_late.Goals as goal

pub returns : goal.returns
returns c = stored_late c.one_table.ensures
