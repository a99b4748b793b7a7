use Rattle.std.proofs.Common.{◌≡◌, ◌++◌, ℕ, ◌^◌, min, take, map}
use Rattle.formula_core.specs.Shifting.{shifted}
use Rattle.formula_core.proofs.+shift.Given as goal

abbrev pub invariant-shift::shift_all-loop-item : goal.invariant-shift::shift_all-loop-item
invariant-shift::shift_all-loop-item l = (d : ℕ) → l.depth ≡ min d (2 ^ 32) → l.out.items ≡ l.initial.out.items ++ map (shifted l.by d) (take l.item-index l.items)
