use Rattle.std.proofs.Common.{refl, sym, subst}
use Rattle.prover_pool.specs.Shift.{fair}
use Rattle.session_streams.specs.Streams.{reading, writing}
use Rattle.session_talk.specs.Conversing.{Converses}
use Rattle.session_talk.specs.Private.{IsServing}
use Rattle.session_talk.proofs.GoingOn.{serving_begins, same_chair, same_number}
use Rattle.session_talk.proofs.conversing.converse.Goals as goal

pub loop-init : goal.loop-init
loop-init g c =
    let f = fair (g.P.Prover.answers c.args.tools.now.prover.now) (g.P.Prover.sure c.args.tools.now.prover.now) in let b = c.args.office.now.desk.now.base in let u = c.args.chair.now.number in
    (refl, serving_begins f b u (g.I.Source.left c.args.input.now) (g.I.Source.faults c.args.input.now) (g.O.Sink.written c.args.output.now) (g.O.Sink.faults c.args.output.now) c.args.chair.now.seen c.new-reader.result c.requires.1 c.new-reader.ensures)

pub returns-in-Err-clause-ended : goal.returns-in-Err-clause-ended
returns-in-Err-clause-ended g c =
    let f = fair (g.P.Prover.answers c.args.tools.now.prover.now) (g.P.Prover.sure c.args.tools.now.prover.now) in let b = c.args.office.now.desk.now.base in
    subst (λ n. Converses f b n
    (reading (g.I.Source.left c.args.input.now) (g.I.Source.left c.turn.new.input) (g.I.Source.faults c.args.input.now) (g.I.Source.faults c.turn.new.input))
    (writing (g.O.Sink.written c.args.output.now) (g.O.Sink.written c.turn.new.output) (g.O.Sink.faults c.args.output.now) (g.O.Sink.faults c.turn.new.output))
    c.turn.new.chair.seen c.in-Err.ending) (same_number c.args.chair.now c.loop.chair c.loop.invariant.0)
    (c.in-Err.ensures.turned (g.I.Source.left c.args.input.now) (g.I.Source.faults c.args.input.now) (g.O.Sink.written c.args.output.now) (g.O.Sink.faults c.args.output.now) c.loop.invariant.1)

pub loop-preserved : goal.loop-preserved
loop-preserved g c =
    let f = fair (g.P.Prover.answers c.args.tools.now.prover.now) (g.P.Prover.sure c.args.tools.now.prover.now) in let b = c.args.office.now.desk.now.base in (
      same_chair c.args.chair.now c.loop.chair c.turn.new.chair c.loop.invariant.0 c.turn.ensures.chair,
      subst (λ n. IsServing f b n
          (reading (g.I.Source.left c.args.input.now) (g.I.Source.left c.turn.new.input) (g.I.Source.faults c.args.input.now) (g.I.Source.faults c.turn.new.input))
          (writing (g.O.Sink.written c.args.output.now) (g.O.Sink.written c.turn.new.output) (g.O.Sink.faults c.args.output.now) (g.O.Sink.faults c.turn.new.output))
          c.turn.new.chair.seen c.turn.new.reader) (sym (same_number c.loop.chair c.turn.new.chair c.turn.ensures.chair))
          (c.in-Ok.ensures.turned (g.I.Source.left c.args.input.now) (g.I.Source.faults c.args.input.now) (g.O.Sink.written c.args.output.now) (g.O.Sink.faults c.args.output.now) c.loop.invariant.1),
    )
