use Rattle.std.proofs.Common.{◌∙◌}
use Rattle.rodin_cli.proofs.Rounds.{demonstrates_both, demonstrates_stop}
use Rattle.rodin_cli.proofs.demo.demonstrate_in.Goals as goal

pub returns-in-Ok : goal.returns-in-Ok
returns-in-Ok g c =
    demonstrates_both (g.P.Prover.answers c.args.prover.now) (g.P.Prover.sure c.args.prover.now) c.args.seeded.seed c.args.seeded.n c.args.session c.rounds.new.session c.part_from.result
    c.enters_all.ensures c.requires.empty c.requires.history c.part_from.ensures.history c.part_from.ensures.last _
    c.part_from.ensures.status c.in-Ok.ensures.both

pub returns-in-Err : goal.returns-in-Err
returns-in-Err g c =
    demonstrates_stop (g.P.Prover.answers c.args.prover.now) (g.P.Prover.sure c.args.prover.now) c.args.seeded.seed c.args.seeded.n c.args.session c.rounds.new.session c.part_from-in-Err.result
    c.enters_all.ensures c.requires.empty c.requires.history c.part_from-in-Err.ensures.history c.part_from-in-Err.ensures.last
    (g.O.Sink.written c.args.output.now) (g.O.Sink.written c.rounds.new.output) (g.O.Sink.written c.conclude.new.output)
    (g.O.Sink.faults c.args.output.now) (g.O.Sink.faults c.rounds.new.output) (g.O.Sink.faults c.conclude.new.output) c.rounds.ensures.later
    c.in-Err.stop (c.part_from-in-Err.ensures.status ∙ c.stop_status.ensures) c.in-Err.ensures.stopped c.conclude.ensures
