use Rattle.std.proofs.Common.{◌≡◌, ◌∙◌, ap, sym, true, false, Err}
use Rattle.check_input.proofs.Texts.{name_too}
use Rattle.check_input.proofs.parts.name_of.Goals as goal

pub unreachable-requires : goal.unreachable-requires
unreachable-requires c =
    let bad = c.read.ensures.bad.0 (c.in-Err-BadName.is ∙ ap Err c.in-Err-BadName.field-0-is) in
    let never : true ≡ false = sym (name_too c.args.word.now c.requires) ∙ bad in
    cc
