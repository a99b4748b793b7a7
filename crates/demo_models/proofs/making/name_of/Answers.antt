use Rattle.std.proofs.Common.{◌≡◌, ◌∙◌, ap, sym, true, false, Err}
use Rattle.formula_core.specs.Names.{is_name}
use Rattle.demo_models.proofs.Names.{is_name_of}
use Rattle.demo_models.proofs.making.name_of.Goals as goal

pub unreachable-requires : goal.unreachable-requires
unreachable-requires c =
    let bad = c.in-Err-BadName.ensures.bad.0 (ap Err c.in-Err-BadName.field-0-is) in
    let never : true ≡ false = sym (is_name_of c.args.kind c.args.i c.requires) ∙ ap is_name (sym (c.deref.ensures ∙ c.in_ok-text.ensures)) ∙ bad in
    cc
