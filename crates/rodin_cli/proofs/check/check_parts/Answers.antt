use Rattle.rodin_cli.specs.declared.session.Session.{Session}
use Rattle.rodin_cli.specs.Check.{a_full_table, want_of_memory}
use Rattle.rodin_cli.proofs.Legal.{full_legal}
use Rattle.rodin_cli.proofs.Sessions.{Keeps-same}
use Rattle.rodin_cli.proofs.Answering.{comes_of_answer, ran_out, ran_out_at_once, too_full}
use Rattle.rodin_cli.proofs.check.check_parts.Goals as goal

pub returns-in-Err : goal.returns-in-Err
returns-in-Err g c bytes made =
    want_of_memory (ran_out_at_once (g.P.Prover.answers c.args.prover.now) (g.P.Prover.sure c.args.prover.now) bytes _ c.no_part.result
    c.no_part.ensures.status c.no_part.ensures.nothing (Keeps-same _))

pub returns-in-Ok-Some : goal.returns-in-Ok-Some
returns-in-Ok-Some g c bytes made =
    let old : Session = c.in-Ok.session in
    let whole = rw c.in-Ok-Some.field-0-is at c.in-Ok-Some.ensures.whole in
    let shown = c.in-Ok-Some.shown in
    comes_of_answer (g.P.Prover.answers c.args.prover.now) (g.P.Prover.sure c.args.prover.now) old c.play.new.session whole.0 c.part_from.result
    (record {
      enters = c.enters_all.ensures;
      fresh = c.in-Ok.ensures.core;
      empty = c.in-Ok.ensures.history;
      extends = whole.4;
      legal = whole.2;
      history = c.part_from.ensures.history;
      last = c.part_from.ensures.last;
    })
    c.args.parts.items shown.faults shown.warnings shown.statuses whole.1 whole.3 bytes _ c.answer-status.result c.part_from.ensures.status made c.answer-status.ensures

pub returns-in-Ok-None : goal.returns-in-Ok-None
returns-in-Ok-None g c bytes made =
    let old : Session = c.in-Ok.session in
    let full = rw c.in-Ok-None.field-0-is at c.in-Ok-None.ensures.whole in
    a_full_table (too_full (g.P.Prover.answers c.args.prover.now) (g.P.Prover.sure c.args.prover.now) old c.play.new.session full.0 c.part_from-in-Ok-None.result
    (record {
      enters = c.enters_all.ensures;
      fresh = c.in-Ok.ensures.core;
      empty = c.in-Ok.ensures.history;
      extends = full.2;
      legal = full_legal c.args.parts.items full.0 c.in-Ok.session.core c.play.new.session.core full.1 full.2.0;
      history = c.part_from-in-Ok-None.ensures.history;
      last = c.part_from-in-Ok-None.ensures.last;
    })
    bytes _ c.args.parts.items c.part_from-in-Ok-None.ensures.status made full.1 c.write_last.ensures.written)

pub returns : goal.returns
returns g c bytes made =
    let old : Session = c.in-Ok.session in
    let front = c.in-Err-play.ensures.front in
    want_of_memory (ran_out (g.P.Prover.answers c.args.prover.now) (g.P.Prover.sure c.args.prover.now) old c.play.new.session front.0 c.part_from-in-Err-play.result
    (record {
      enters = c.enters_all.ensures;
      fresh = c.in-Ok.ensures.core;
      empty = c.in-Ok.ensures.history;
      extends = front.3;
      legal = front.2;
      history = c.part_from-in-Err-play.ensures.history;
      last = c.part_from-in-Err-play.ensures.last;
    })
    bytes _ c.args.parts.items c.part_from-in-Err-play.ensures.status made front.1 (Keeps-same _))
