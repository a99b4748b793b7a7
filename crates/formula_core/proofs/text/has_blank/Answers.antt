use Rattle.std.proofs.Common.{◌∙◌, sym, ap}
use Rattle.std.proofs.lemmas.List.{take_rest}
use Rattle.formula_core.specs.Texts.{begins_with_blank}
use Rattle.formula_core.proofs.Texts.{has_blank_from}
use Rattle.formula_core.proofs.text.has_blank.Goals as goal

pub loop-i-preserved : goal.loop-i-preserved
loop-i-preserved c =
    c.loop-i.invariant
    ∙ has_blank_from c.args.text.now c.loop-i.i (ap begins_with_blank (sym (take_rest c.args.text.now c.loop-i.i)) ∙ sym c.begins_with_blank.ensures ∙ c.if-begins_with_blank.false)
