use Rattle.std.proofs.Common.{◌≡◌, take}
use Rattle.formula_core.proofs.formula.+same.Given as goal

abbrev pub invariant-same_formulas-loop-i : goal.invariant-same_formulas-loop-i
invariant-same_formulas-loop-i l = take l.i l.xs ≡ take l.i l.ys
