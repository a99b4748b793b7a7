use Rattle.std.proofs.Common.{arith}
use Rattle.rodin_cli.proofs.Words.{no_plus, number_read, not_read}
use Rattle.rodin_cli.proofs.command.number_of.Goals as goal

pub returns-then-word-gt-MOST_DIGITS : goal.returns-then-word-gt-MOST_DIGITS
returns-then-word-gt-MOST_DIGITS c n word small = omega (arith, word.1)

pub returns-then-begins_with_plus : goal.returns-then-begins_with_plus
returns-then-begins_with_plus c n word small = no_plus c.args.word.now word.0 ((rw c.as_bytes.ensures.value at c.begins_with_plus.ensures).0 c.if-begins_with_plus.true)

pub returns-in-Ok : goal.returns-in-Ok
returns-in-Ok c = number_read c.args.word.now c.in-Ok.n c.parse.result c.in-Ok.is (λ e. let plus = (rw c.as_bytes.ensures.value at c.begins_with_plus.ensures).1 e in let none = c.if-begins_with_plus.false in cc (plus, none)) (omega arith) c.parse.ensures.value.0

pub returns-in-Err : goal.returns-in-Err
returns-in-Err c = not_read c.args.word.now c.in-Err.field-0 c.parse.result c.in-Err.is (λ e. let plus = (rw c.as_bytes.ensures.value at c.begins_with_plus.ensures).1 e in let none = c.if-begins_with_plus.false in cc (plus, none)) c.parse.ensures.value.0
