use Rattle.std.proofs.Common.{arith}
use Rattle.std.proofs.lemmas.Str.{IsUtf8-from_is_utf8, is_utf8-from_IsUtf8}
use Rattle.step_items.proofs.terms.text_of.Goals as goal

pub returns-in-Ok : goal.returns-in-Ok
returns-in-Ok c = (c.in-Ok.ensures.cases.0, is_utf8-from_IsUtf8 c.args.bytes.now c.in-Ok.ensures.cases.1, omega (arith, c.if-bytes.false))

pub returns-in-Err : goal.returns-in-Err
returns-in-Err c = λ is short. c.in-Err.ensures.cases.0 (IsUtf8-from_is_utf8 c.args.bytes.now is)
