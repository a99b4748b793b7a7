use Rattle.std.proofs.Common.{◌≡◌, ◌++◌, ℕ, ◌^◌, min, take, map}
use Rattle.formula_core.specs.Formulas.{instantiated}
use Rattle.formula_core.proofs.formula.+instantiate.Given as goal

abbrev pub invariant-instantiate_all-loop-item : goal.invariant-instantiate_all-loop-item
invariant-instantiate_all-loop-item l = (d : ℕ) → l.depth ≡ min d (2 ^ 32) → l.out.items ≡ l.initial.out.items ++ map (instantiated l.terms d) (take l.item-index l.items)
