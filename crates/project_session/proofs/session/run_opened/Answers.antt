use Rattle.std.proofs.Common.{ℕ, List, ap, sym, subst}
use Rattle.std.specs.Prelude.{Option}
use Rattle.prover_pool.specs.Shift.{fair}
use Rattle.session_streams.specs.Streams.{reading, writing}
use Rattle.session_ends.specs.Sessions.{IsSession, Opens}
use denote.Param.Send.{sendable}
use Rattle.project_session.proofs.CrossingStore.{store}
use Rattle.project_session.proofs.session.run_opened.Goals as goal

pub play-requires-send-V : goal.play-requires-send-V
play-requires-send-V g c κs = search (sendable, store)

pub returns-in-Ok : goal.returns-in-Ok
returns-in-Ok g c old opens opening = c.end_played.ensures c.args.workers c.args.store _ _ _ old opens opening c.in-Ok.ensures.base c.in-Ok.ensures.played

pub returns-in-Err : goal.returns-in-Err
returns-in-Err g c old opens opening =
    let same = c.in-Err.ensures.untouched in
    let here = subst (λ s. Opens g.D.Disk.told g.D.Disk.bytes_of g.D.Disk.images g.D.Disk.clock g.D.Disk.moments g.D.Disk.faults old s) (sym c.in-Err.ensures.refused) opens in
    let ended = c.end_unplayed.ensures c.args.workers old (g.I.Source.left c.play.new.input) (g.I.Source.faults c.play.new.input) here opening in
    subst (λ (z : Option (List ℕ) × ℕ × Option (List ℕ) × ℕ). IsSession g.D.Disk.told g.D.Disk.bytes_of g.D.Disk.images g.D.Disk.clock g.D.Disk.moments g.D.Disk.faults
    (fair (g.P.Prover.answers c.args.tools.now.prover.now) (g.P.Prover.sure c.args.tools.now.prover.now)) (g.P.Prover.sure c.args.tools.now.prover.now) c.args.workers old c.end_unplayed.result.disk
    (reading z.0 (g.I.Source.left c.play.new.input) z.1 (g.I.Source.faults c.play.new.input))
    (writing z.2 (g.O.Sink.written c.end_unplayed.new.output) z.3 (g.O.Sink.faults c.end_unplayed.new.output))
    c.end_unplayed.result.status c.end_unplayed.result.history.items c.end_unplayed.result.last)
    {x = (g.I.Source.left c.play.new.input, g.I.Source.faults c.play.new.input, g.O.Sink.written c.play.new.output, g.O.Sink.faults c.play.new.output)}
    (λ i. (ap g.I.Source.left same.0 i, ap g.I.Source.faults same.0 i, ap g.O.Sink.written same.1 i, ap g.O.Sink.faults same.1 i)) ended
