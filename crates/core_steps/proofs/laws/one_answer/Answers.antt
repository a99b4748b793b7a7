use Rattle.std.proofs.Common.{ap}
use Rattle.core_steps.specs.Outcomes.{StepOutcome}
use Rattle.core_steps.proofs.OneWay.{Laws, comes_one}
use Rattle.core_steps.proofs.laws.one_answer.Goals as goal

pub returns : goal.returns
returns c = λ s event r q n m t u o x y.
    let laws : Laws = record { table = c.one_table.ensures; faults = c.one_list_of_faults.ensures; warnings = c.one_list_of_warnings.ensures; rule = c.one_rule.ensures } in
    let z : StepOutcome = record { reply = r; entry = n; new = t } in
    let w : StepOutcome = record { reply = q; entry = m; new = u } in
    let e = comes_one laws s event z w o x y in
    (ap (λ v. v.reply) e, ap (λ v. v.entry) e, ap (λ v. v.new) e)
