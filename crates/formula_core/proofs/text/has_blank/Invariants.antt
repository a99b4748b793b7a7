use Rattle.std.proofs.Common.{◌≡◌, drop}
use Rattle.formula_core.specs.Texts.{has_blank}
use Rattle.formula_core.proofs.text.has_blank.Given as goal

abbrev pub invariant-loop-i : goal.invariant-loop-i
invariant-loop-i l = has_blank l.text ≡ has_blank (drop l.i l.text)
