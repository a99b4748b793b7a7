use Rattle.std.proofs.Common.{◌≡◌, ◌++◌, ℕ, ◌^◌, min, take, map}
use Rattle.formula_core.specs.Shifting.{abstracted}
use Rattle.formula_core.proofs.+bind.Given as goal

abbrev pub invariant-shift::bind_all-loop-item : goal.invariant-shift::bind_all-loop-item
invariant-shift::bind_all-loop-item l = (d : ℕ) → l.depth ≡ min d (2 ^ 32) → l.out.items ≡ l.initial.out.items ++ map (abstracted l.identifiers d) (take l.item-index l.items)
