use Rattle.std.proofs.Common.{rules, ◌∙◌}
use Rattle.std.proofs.lemmas.Int.{to_z-of_z}
use Rattle.std.specs.Int.{w128}
use Rattle.formula_values.proofs.FormRules.{between}
use Rattle.formula_values.proofs.giving.gives_binary.Goals as goal

pub returns-in-Interval : goal.returns-in-Interval
returns-in-Interval c =
    between c.args.form c.args.v.now c.args.w.now _ _ c.interval.result c.in-Interval.is
    (to_z-of_z w128 c.number.result (search rules) ∙ c.number.ensures) (to_z-of_z w128 c.number-in-Interval.result (search rules) ∙ c.number-in-Interval.ensures)
    c.interval.ensures
