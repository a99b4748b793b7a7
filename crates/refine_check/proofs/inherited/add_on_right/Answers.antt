use Rattle.std.proofs.Common.{◌∙◌, ◌++◌, ap, sym, map}
use Rattle.formula_core.specs.Formulas.{joined}
use Rattle.check_rules.specs.Assignments.{free_names_of, names_on_right}
use Rattle.refine_check.proofs.Inheriting.{values_are}
use Rattle.refine_check.proofs.inherited.add_on_right.Goals as goal

pub returns-in_ok-add_free_of_values-in-Assign : goal.returns-in_ok-add_free_of_values-in-Assign
returns-in_ok-add_free_of_values-in-Assign c =
    c.in_ok-add_free_of_values-in-Assign.ensures
    ∙ ap (λ ys. c.args.found.now.items ++ ys) (values_are c.items.result.now ∙ ap (λ ps. joined (map free_names_of (map (λ p. p.1) ps))) c.items.ensures ∙ ap names_on_right (sym c.in-Assign.is))
