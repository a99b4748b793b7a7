use Rattle.rodin_cli.proofs.Rounds.{ok_so, err_so, first_rests, first_stops, second_shows, second_stops}
use Rattle.rodin_cli.proofs.demo.rounds.Goals as goal

pub returns-in-Err-clause-stopped : goal.returns-in-Err-clause-stopped
returns-in-Err-clause-stopped g c =
    first_stops (g.P.Prover.answers c.args.prover.now) (g.P.Prover.sure c.args.prover.now) c.decides_sequents.ensures c.args.seeded.seed c.args.seeded.n c.args.session.now c.show.new.session c.requires.empty
    _ c.in-Err.stop c.in-Err.ensures.stopped

pub show-requires-2-clause-out : goal.show-requires-2-clause-out
show-requires-2-clause-out g c =
    let f = c.in-Ok.ensures.shown in
    (first_rests (g.P.Prover.answers c.args.prover.now) (g.P.Prover.sure c.args.prover.now) c.decides_sequents.ensures c.args.seeded.seed c.args.seeded.n c.args.session.now c.show.new.session c.requires.empty
    f.0 f.1 f.2 f.3).0

pub show-requires-2-clause-number : goal.show-requires-2-clause-number
show-requires-2-clause-number g c =
    let f = c.in-Ok.ensures.shown in
    (first_rests (g.P.Prover.answers c.args.prover.now) (g.P.Prover.sure c.args.prover.now) c.decides_sequents.ensures c.args.seeded.seed c.args.seeded.n c.args.session.now c.show.new.session c.requires.empty
    f.0 f.1 f.2 f.3).1

pub returns-clause-both : goal.returns-clause-both
returns-clause-both g c =
    let f = c.in-Ok.ensures.shown in
    ok_so c.show-2.result _ _
    (second_shows (g.P.Prover.answers c.args.prover.now) (g.P.Prover.sure c.args.prover.now) c.decides_sequents.ensures c.args.seeded.seed c.args.seeded.n c.args.session.now c.show.new.session c.requires.empty
    c.enters_all.ensures c.show-2.new.session f.0 f.1 f.2 f.3 (g.O.Sink.written c.args.output.now) (g.O.Sink.written c.show.new.output) (g.O.Sink.written c.show-2.new.output)
    (g.O.Sink.faults c.args.output.now) (g.O.Sink.faults c.show.new.output) (g.O.Sink.faults c.show-2.new.output) c.show.ensures.later f.4)
    c.show-2.ensures.shown

pub returns-clause-stopped : goal.returns-clause-stopped
returns-clause-stopped g c =
    let f = c.in-Ok.ensures.shown in
    err_so c.show-2.result _ _
    (second_stops (g.P.Prover.answers c.args.prover.now) (g.P.Prover.sure c.args.prover.now) c.decides_sequents.ensures c.args.seeded.seed c.args.seeded.n c.args.session.now c.show.new.session c.requires.empty
    c.enters_all.ensures c.show-2.new.session f.0 f.1 f.2 f.3 (g.O.Sink.written c.args.output.now) (g.O.Sink.written c.show.new.output) (g.O.Sink.written c.show-2.new.output)
    (g.O.Sink.faults c.args.output.now) (g.O.Sink.faults c.show.new.output) (g.O.Sink.faults c.show-2.new.output) c.show.ensures.later f.4)
    c.show-2.ensures.stopped
