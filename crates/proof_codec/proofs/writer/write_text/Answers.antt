use Rattle.std.proofs.Common.{◌∙◌, ap, ◌++◌}
use Rattle.std.proofs.lemmas.Str.{is_utf8-from_IsUtf8}
use Rattle.proof_codec.proofs.Writing.{text_written}
use Rattle.proof_codec.proofs.writer.write_text.Goals as goal

pub returns : goal.returns
returns c =
    text_written _ _ c.write_number.new.out.items _ (is_utf8-from_IsUtf8 _ c.utf8.text) c.requires c.in_ok-write_number.ensures
    (c.in_ok-extend_from_slice.ensures.items ∙ ap (λ b. c.write_number.new.out.items ++ b) c.as_bytes.ensures.value)
