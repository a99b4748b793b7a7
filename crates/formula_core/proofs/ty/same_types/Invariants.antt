use Rattle.std.proofs.Common.{◌≡◌, take}
use Rattle.formula_core.proofs.ty.same_types.Given as goal

abbrev pub invariant-loop-i : goal.invariant-loop-i
invariant-loop-i l = take l.i l.xs ≡ take l.i l.ys
