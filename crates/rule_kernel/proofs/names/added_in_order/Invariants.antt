use Rattle.std.proofs.Common.{◌≡◌, drop, map, fold}
use Rattle.formula_core.specs.Formulas.{joined}
use Rattle.rule_table.specs.Rules.{with_name, sorted_by_name}
use Rattle.rule_kernel.proofs.names.added_in_order.Given as goal

abbrev pub invariant-loop-antecedent : goal.invariant-loop-antecedent
invariant-loop-antecedent l = fold with_name l.sorted.entries (joined (map (λ a. a.idents) (drop l.antecedent-index l.antecedents))) ≡ sorted_by_name (joined (map (λ a. a.idents) l.antecedents))
