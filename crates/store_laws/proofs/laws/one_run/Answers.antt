use Rattle.store_laws.proofs.Histories.{one_run}
use Rattle.store_laws.proofs.laws.one_run.Goals as goal

pub returns : goal.returns
returns c = one_run c.one_answer.ensures c.stays_orderly.ensures
