use Rattle.std.proofs.Common.{◌≡◌, ap, length, subst, arith}
use Rattle.proof_codec.specs.Private.{WritesAs}
use Rattle.proof_codec.specs.Numbers.{IsText, text_bytes}
use Rattle.proof_codec.specs.Names.{IsGoodName}
use Rattle.proof_codec.proofs.ShortNames.{name_is_text}
use Rattle.proof_codec.proofs.Writing.{writes_as}
use Rattle.proof_codec.proofs.names.NameCoded.write.Goals as goal

pub write_text-requires : goal.write_text-requires
write_text-requires c = let short = (name_is_text c.args.self.now c.as_text.ensures.name).1 in omega (arith, short, ap length c.as_text.ensures.text)

pub returns : goal.returns
returns c =
    writes_as (IsText 65536) IsGoodName text_bytes _ _ _ _ (λ is. c.as_text.ensures.name)
    (subst (λ text. WritesAs (IsText 65536) text_bytes text c.args.out.now.items c.write_text.new.out.items c.write_text.result) c.as_text.ensures.text c.write_text.ensures)
