use Rattle.std.proofs.Common.{arith, ap, Err, subst}
use Rattle.rodin_cli.specs.Check.{ComesOf, answers_input, refuses_long_input, meets_read_fault}
use Rattle.session_streams.specs.Streams.{writing}
use Rattle.rodin_cli.proofs.check.check_source.Goals as goal

pub returns-then-len-gt-LONGEST_INPUT : goal.returns-then-len-gt-LONGEST_INPUT
returns-then-len-gt-LONGEST_INPUT g c =
    refuses_long_input c.in-Ok.bytes.items (record { taken = c.in-Ok.ensures.read; most = c.in-Ok.ensures.most; ended = c.in-Ok.ensures.ended })
    (omega (arith, c.len.ensures, c.if-len-gt-LONGEST_INPUT.true)) c.ends_with_line.ensures

pub returns-else-len-gt-LONGEST_INPUT : goal.returns-else-len-gt-LONGEST_INPUT
returns-else-len-gt-LONGEST_INPUT g c =
    answers_input c.in-Ok.bytes.items (record { taken = c.in-Ok.ensures.read; most = c.in-Ok.ensures.most; ended = c.in-Ok.ensures.ended })
    (omega (arith, c.len.ensures, c.if-len-gt-LONGEST_INPUT.false))
    (subst (λ u. ComesOf (g.P.Prover.answers c.args.prover.now) (g.P.Prover.sure c.args.prover.now) u
    (writing (g.O.Sink.written c.args.output.now) (g.O.Sink.written c.check_bytes.new.output) (g.O.Sink.faults c.args.output.now) (g.O.Sink.faults c.check_bytes.new.output))
    c.check_bytes.result) c.deref.ensures.value c.check_bytes.ensures)

pub returns-in-Err-Failed : goal.returns-in-Err-Failed
returns-in-Err-Failed g c =
    meets_read_fault (c.in-Err-Failed.ensures.failed (ap Err c.in-Err-Failed.field-0-is)) c.in-Err-Failed.ensures.read_in_part c.ends_with_line-in-Err-Failed.ensures
