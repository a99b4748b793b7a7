use Rattle.rodin_cli.proofs.Rounds.{ok_so, err_so, stops_at_line}
use Rattle.rodin_cli.proofs.Sessions.{Keeps-same}
use Rattle.rodin_cli.proofs.demo.show.Goals as goal

pub returns-in-Ok-None-clause-stopped : goal.returns-in-Ok-None-clause-stopped
returns-in-Ok-None-clause-stopped g c =
    let full = rw c.in-Ok-None.field-0-is at c.in-Ok-None.ensures.whole in
    (full.0, full.1, full.2, Keeps-same _)

pub returns-in-Err-clause-stopped : goal.returns-in-Err-clause-stopped
returns-in-Err-clause-stopped g c =
    let f = c.in-Err.ensures.front in
    (f.0, f.1, f.2, Keeps-same _)

pub returns-in-Ok-Some-clause-shown : goal.returns-in-Ok-Some-clause-shown
returns-in-Ok-Some-clause-shown g c =
    let counted = rw c.in-Ok-Some.field-0-is at c.in-Ok-Some.ensures.whole in
    ok_so c.print_line.result _ _ (λ written. (c.in-Ok-Some.counted, counted.0, counted.1, counted.2, written)) c.print_line.ensures.whole

pub returns-in-Ok-Some-clause-stopped : goal.returns-in-Ok-Some-clause-stopped
returns-in-Ok-Some-clause-stopped g c =
    let counted = rw c.in-Ok-Some.field-0-is at c.in-Ok-Some.ensures.whole in
    err_so c.print_line.result _ _
    (stops_at_line (g.P.Prover.answers c.args.prover.now) (g.P.Prover.sure c.args.prover.now) c.args.round c.in-Ok-Some.counted counted.0 c.args.session.now c.count.new.session _ counted.1 counted.2)
    c.print_line.ensures.stopped
