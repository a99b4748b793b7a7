use Rattle.std.proofs.Common.{take}
use Rattle.std.specs.List.{AllByRecursion}
use Rattle.formula_core.specs.Env.{HasDistinctNames}
use Rattle.rule_kernel.proofs.sound.add_distinct_names.Given as goal

abbrev pub invariant-loop-antecedent : goal.invariant-loop-antecedent
invariant-loop-antecedent l = AllByRecursion (λ a. HasDistinctNames a.idents) (take l.antecedent-index l.antecedents)
