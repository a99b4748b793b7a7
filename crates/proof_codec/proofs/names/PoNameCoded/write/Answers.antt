use Rattle.std.proofs.Common.{◌≡◌, ap, length, subst, arith}
use Rattle.proof_codec.specs.Private.{WritesAs}
use Rattle.proof_codec.specs.Numbers.{IsText, text_bytes}
use Rattle.proof_codec.specs.Entries.{IsPoName}
use Rattle.proof_codec.proofs.NarrowNames.{po_name_short}
use Rattle.proof_codec.proofs.Writing.{writes_as}
use Rattle.proof_codec.proofs.names.PoNameCoded.write.Goals as goal

pub write_text-requires : goal.write_text-requires
write_text-requires c = let short = po_name_short c.args.self.now c.as_text.ensures.name in omega (arith, short, ap length c.as_text.ensures.text)

pub returns : goal.returns
returns c =
    writes_as (IsText 65536) IsPoName text_bytes _ _ _ _ (λ is. (c.as_text.ensures.name, is.0))
    (subst (λ text. WritesAs (IsText 65536) text_bytes text c.args.out.now.items c.write_text.new.out.items c.write_text.result) c.as_text.ensures.text c.write_text.ensures)
