use Rattle.std.proofs.Common.{[], ◌∷◌, subst, sym, arith}
use Rattle.std.specs.Prelude.{MatchOption}
use Rattle.session_words.specs.Reading.{GivesLine, GivesNoLine}
use Rattle.session_streams.specs.declared.reading.ReadEnd.TheVariants.{Ended}
use Rattle.session_streams.specs.Reads.{EndsReading}
use Rattle.session_streams.proofs.Readers.{reads_nothing, ends_untold, ends_done, ends_at, reads_piece, given_line, then_reads, then_ends, handed_on}
use Rattle.session_streams.proofs.reading.next_line.Goals as goal

pub loop-line-init : goal.loop-line-init
loop-line-init g c = (reads_nothing _ c.args.reader.now, omega arith)

pub returns-in_err-line-clause-ended : goal.returns-in_err-line-clause-ended
returns-in_err-line-clause-ended g c =
    let a = g.I.Source.left c.args.input.now in
    let b = g.I.Source.left c.loop-line.input in
    let f = g.I.Source.faults c.args.input.now in
    let h = g.I.Source.faults c.loop-line.input in
    let end = c.in_err-line.field-0.0 in
    let same = c.in_err-line.ensures.same in
    handed_on (λ e. EndsReading a c.args.reader.now b e f h) c.from_residual.result end c.from_residual.ensures.1
    (then_ends a b b c.args.reader.now c.loop-line.reader end f h h c.loop-line.invariant.1 c.loop-line.invariant.0
    (subst (λ e. EndsReading b c.loop-line.reader b e h h) (sym c.in_err-line.ensures.memory)
    (ends_untold b c.loop-line.reader c.whole_line.new.reader h h same.0 same.1 c.in_err-line.ensures.kept)))

pub returns-in-Some-clause-given : goal.returns-in-Some-clause-given
returns-in-Some-clause-given g c =
    let a = g.I.Source.left c.args.input.now in
    let b = g.I.Source.left c.loop-line.input in
    let old = c.loop-line.reader.commands in
    let new = c.whole_line.new.reader.commands in
    let same = c.in_ok-line.ensures.same in
    then_reads a b b c.args.reader.now c.loop-line.reader c.whole_line.new.reader (c.in-Some.line ∷ []) c.loop-line.invariant.0
    (given_line b c.loop-line.reader c.whole_line.new.reader c.in-Some.line same.0 same.1
    (subst (λ o. MatchOption o (GivesNoLine old new) (λ line. GivesLine old line new)) c.in-Some.is c.in_ok-line.ensures.given))

pub returns-in-None-clause-ended : goal.returns-in-None-clause-ended
returns-in-None-clause-ended g c =
    let a = g.I.Source.left c.args.input.now in
    let b = g.I.Source.left c.loop-line.input in
    let f = g.I.Source.faults c.args.input.now in
    let h = g.I.Source.faults c.loop-line.input in
    let old = c.loop-line.reader.commands in
    let new = c.whole_line.new.reader.commands in
    let same = c.in_ok-line.ensures.same in
    then_ends a b b c.args.reader.now c.loop-line.reader Ended f h h c.loop-line.invariant.1 c.loop-line.invariant.0
    (ends_done b c.loop-line.reader c.whole_line.new.reader h h same.0 same.1
    (subst (λ o. MatchOption o (GivesNoLine old new) (λ line. GivesLine old line new)) c.in-None.is c.in_ok-line.ensures.given) c.if-reader.true)

pub loop-line-preserved : goal.loop-line-preserved
loop-line-preserved g c =
    let a = g.I.Source.left c.args.input.now in
    let b = g.I.Source.left c.loop-line.input in
    let d = g.I.Source.left c.read_piece.new.input in
    let old = c.loop-line.reader.commands in
    let new = c.whole_line.new.reader.commands in
    let same = c.in_ok-line.ensures.same in
    let none = subst (λ o. MatchOption o (GivesNoLine old new) (λ line. GivesLine old line new)) c.in-None-2.is c.in_ok-line.ensures.given in (
      then_reads a b d c.args.reader.now c.loop-line.reader c.read_piece.new.reader [] c.loop-line.invariant.0
          (reads_piece b d c.loop-line.reader c.whole_line.new.reader c.read_piece.new.reader same.0 same.1 none c.in_ok-read_piece-in-None-2.ensures.read),
      omega (arith, c.loop-line.invariant.1, c.read_piece.ensures.later),
    )

pub returns-in_err-read_piece-in-None-2-clause-ended : goal.returns-in_err-read_piece-in-None-2-clause-ended
returns-in_err-read_piece-in-None-2-clause-ended g c =
    let a = g.I.Source.left c.args.input.now in
    let b = g.I.Source.left c.loop-line.input in
    let d = g.I.Source.left c.read_piece.new.input in
    let f = g.I.Source.faults c.args.input.now in
    let h = g.I.Source.faults c.loop-line.input in
    let k = g.I.Source.faults c.read_piece.new.input in
    let old = c.loop-line.reader.commands in
    let new = c.whole_line.new.reader.commands in
    let same = c.in_ok-line.ensures.same in
    let end = c.in_err-read_piece-in-None-2.field-0.0 in
    let none = subst (λ o. MatchOption o (GivesNoLine old new) (λ line. GivesLine old line new)) c.in-None-2.is c.in_ok-line.ensures.given in
    handed_on (λ e. EndsReading a c.args.reader.now d e f k) c.from_residual-in_err-read_piece-in-None-2.result end c.from_residual-in_err-read_piece-in-None-2.ensures.1
    (then_ends a b d c.args.reader.now c.loop-line.reader end f h k c.loop-line.invariant.1 c.loop-line.invariant.0
    (ends_at b d c.loop-line.reader c.whole_line.new.reader end h k same.0 same.1 none c.if-reader.false c.in_err-read_piece-in-None-2.ensures.ended))
