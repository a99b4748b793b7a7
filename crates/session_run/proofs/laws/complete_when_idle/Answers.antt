use Rattle.session_run.proofs.Runs.{CoreLaws}
use Rattle.session_run.proofs.Idle.{complete_when_idle}
use Rattle.session_run.proofs.laws.complete_when_idle.Goals as goal

pub returns : goal.returns
returns g c =
    let laws : CoreLaws = record { one = c.one_answer.ensures; orderly = c.stays_orderly.ensures } in
    complete_when_idle laws _ (g.P.Prover.sure c.args._prover.now) (λ q a f. f.1) c.decides_sequents.ensures
