use Rattle.po_rules.proofs.Members.{rows_give}
use Rattle.po_rules.proofs.laws.rows_give_obligations.Goals as goal

pub returns : goal.returns
returns c = rows_give
