use Rattle.std.proofs.Common.{◌≡◌, false, take}
use Rattle.rule_table.specs.Linear.{is_formula_among}
use Rattle.short_proofs.proofs.tests.is_among.Given as goal

abbrev pub invariant-loop-formula : goal.invariant-loop-formula
invariant-loop-formula l = is_formula_among (take l.formula-index l.formulas) l.f ≡ false
