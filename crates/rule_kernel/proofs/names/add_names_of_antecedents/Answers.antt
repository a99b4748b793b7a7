use Rattle.std.proofs.Common.{◌≡◌, ◌∙◌, sym, ap, ◌+◌, List, ◌∷◌, ◌++◌, map, drop, append_assoc, arith}
use Rattle.std.proofs.lemmas.Grind.{common_steps}
use Rattle.formula_core.specs.declared.Formula.{Formula}
use Rattle.formula_core.specs.Formulas.{joined}
use Rattle.rule_table.specs.declared.rule.Antecedent.{Antecedent}
use Rattle.rule_table.specs.Rules.{antecedent_formulas, names_in}
use Rattle.rule_kernel.proofs.Appended.{names_append}
use Rattle.rule_kernel.proofs.names.add_names_of_antecedents.Goals as goal

pub loop-antecedent-preserved : goal.loop-antecedent-preserved
loop-antecedent-preserved c =
    let a : Antecedent = c.antecedent-item.result in
    let rest : List Antecedent = drop (c.loop-antecedent.antecedent-index + 1) c.args.antecedents.now in
    let left : List Formula = joined (map antecedent_formulas rest) in
    let dropped : drop c.loop-antecedent.antecedent-index c.args.antecedents.now ≡ a ∷ rest = grind (arith, common_steps) in
    ap (λ ns. ns ++ names_in left) c.in_ok-add_names_of_antecedent.ensures
    ∙ append_assoc c.loop-antecedent.names.items (names_in (antecedent_formulas a)) (names_in left)
    ∙ ap (λ ns. c.loop-antecedent.names.items ++ ns) (sym (names_append (antecedent_formulas a) left))
    ∙ ap (λ all. c.loop-antecedent.names.items ++ names_in (joined (map antecedent_formulas all))) (sym dropped)
    ∙ c.loop-antecedent.invariant
