use Rattle.std.proofs.Common.{ap, length, subst, arith}
use Rattle.proof_codec.specs.Private.{WritesAs}
use Rattle.proof_codec.specs.Numbers.{IsText, text_bytes}
use Rattle.proof_codec.proofs.names.TextCoded.write.Goals as goal

pub write_text-requires : goal.write_text-requires
write_text-requires c = omega (arith, c.requires, ap length c.as_text.ensures)

pub returns : goal.returns
returns c = subst (λ text. WritesAs (IsText 65536) text_bytes text c.args.out.now.items c.write_text.new.out.items c.write_text.result) c.as_text.ensures c.write_text.ensures
