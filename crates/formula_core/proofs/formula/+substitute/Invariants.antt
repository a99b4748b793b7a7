use Rattle.std.proofs.Common.{◌≡◌, ◌++◌, take, map}
use Rattle.formula_core.specs.Formulas.{substituted}
use Rattle.formula_core.proofs.formula.+substitute.Given as goal

abbrev pub invariant-substitute_all-loop-item : goal.invariant-substitute_all-loop-item
invariant-substitute_all-loop-item l = l.out.items ≡ l.initial.out.items ++ map (substituted l.pairs) (take l.item-index l.items)
