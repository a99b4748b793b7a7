use Rattle.std.proofs.Common.{arith, sym, subst}
use Rattle.std.proofs.lemmas.Str.{is_utf8-from_IsUtf8, IsUtf8-from_is_utf8}
use Rattle.proof_codec.specs.Private.{IsReadAs}
use Rattle.proof_codec.specs.Numbers.{IsText, text_bytes}
use Rattle.proof_codec.proofs.Texts.{text_read, no_text}
use Rattle.proof_codec.proofs.reader.Reader.text.Goals as goal

pub returns-in-Ok : goal.returns-in-Ok
returns-in-Ok c =
    let utf8 = is_utf8-from_IsUtf8 _ c.in-Ok.ensures.cases.1 in
    subst (λ text. IsReadAs (IsText c.args.most) text_bytes c.args.self.now text c.part.new.self) (sym c.in-Ok.ensures.cases.0)
    (text_read c.args.most (omega arith) _ _ _ _ c.in_ok-count.ensures _ c.in_ok-bytes.ensures utf8 (omega arith))

pub returns-in-Err : goal.returns-in-Err
returns-in-Err c = no_text c.args.most (omega arith) _ _ _ _ c.in_ok-count.ensures _ c.in_ok-bytes.ensures (λ is. c.in-Err.ensures.cases.0 (IsUtf8-from_is_utf8 _ is))
