use Rattle.std.proofs.Common.{◌≡◌, map, take}
use Rattle.formula_core.proofs.action.have_same_actions.Given as goal

abbrev pub invariant-loop-i : goal.invariant-loop-i
invariant-loop-i l = take l.i (map (λ a. a.1) l.xs) ≡ take l.i (map (λ a. a.1) l.ys)
