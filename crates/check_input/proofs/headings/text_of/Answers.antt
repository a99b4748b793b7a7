use Rattle.std.proofs.Common.{◌≡◌, ◌∙◌, sym, true, false}
use Rattle.check_input.proofs.Texts.{no_name}
use Rattle.check_input.proofs.headings.text_of.Goals as goal

pub unreachable-requires : goal.unreachable-requires
unreachable-requires c = let never : true ≡ false = sym c.requires ∙ no_name c.args.word.now c.in_default.ensures.cases.0 in cc
