use Rattle.session_run.proofs.Runs.{CoreLaws}
use Rattle.session_run.proofs.Together.{one_history}
use Rattle.session_run.proofs.laws.one_history.Goals as goal

pub returns : goal.returns
returns g c = let laws : CoreLaws = record { one = c.one_answer.ensures; orderly = c.stays_orderly.ensures } in one_history laws _
