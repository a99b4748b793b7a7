use Rattle.core_steps.specs.Outcomes.{StepOutcome}
use Rattle.core_steps.proofs.OneWay.{Laws}
use Rattle.core_steps.proofs.Restoring.{built_once}
use Rattle.core_steps.proofs.laws.builds_once.Goals as goal

pub returns : goal.returns
returns c = λ s t u r q n m x y.
    let laws : Laws = record { table = c.one_table.ensures; faults = c.one_list_of_faults.ensures; warnings = c.one_list_of_warnings.ensures; rule = c.one_rule.ensures } in
    let z : StepOutcome = record { reply = r; entry = n; new = t } in
    let w : StepOutcome = record { reply = q; entry = m; new = u } in
    built_once laws s z w x.2 y.2
