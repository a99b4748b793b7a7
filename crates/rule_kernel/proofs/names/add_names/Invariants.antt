use Rattle.std.proofs.Common.{◌≡◌, ◌++◌, drop}
use Rattle.rule_table.specs.Rules.{names_in}
use Rattle.rule_kernel.proofs.names.add_names.Given as goal

abbrev pub invariant-loop-formula : goal.invariant-loop-formula
invariant-loop-formula l = l.names.items ++ names_in (drop l.formula-index l.formulas) ≡ l.initial.names.items ++ names_in l.formulas
