use Rattle.std.proofs.Common.{◌≡◌, ◌++◌, drop, map}
use Rattle.formula_core.specs.Formulas.{joined}
use Rattle.rule_table.specs.Rules.{antecedent_formulas, names_in}
use Rattle.rule_kernel.proofs.names.add_names_of_antecedents.Given as goal

abbrev pub invariant-loop-antecedent : goal.invariant-loop-antecedent
invariant-loop-antecedent l = l.names.items ++ names_in (joined (map antecedent_formulas (drop l.antecedent-index l.antecedents))) ≡ l.initial.names.items ++ names_in (joined (map antecedent_formulas l.antecedents))
