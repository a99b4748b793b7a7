use Rattle.std.proofs.Common.{◌≡◌, drop}
use Rattle.formula_core.specs.Same.{same_formula, same_list}
use Rattle.rule_making.proofs.making.same_hyps.Given as goal

abbrev pub invariant-loop-i : goal.invariant-loop-i
invariant-loop-i l = same_list same_formula (drop l.i l.xs) (drop l.i l.ys) ≡ same_list same_formula l.xs l.ys
