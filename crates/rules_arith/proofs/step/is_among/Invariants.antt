use Rattle.std.proofs.Common.{◌≡◌, drop}
use Rattle.rule_table.specs.Linear.{is_formula_among}
use Rattle.rules_arith.proofs.step.is_among.Given as goal

abbrev pub invariant-loop-formula : goal.invariant-loop-formula
invariant-loop-formula l = is_formula_among l.formulas l.f ≡ is_formula_among (drop l.formula-index l.formulas) l.f
