use Rattle.std.proofs.Common.{◌∙◌, ◌++◌, map}
use Rattle.formula_core.specs.Formulas.{joined}
use Rattle.model_core.specs.Faults.{first_by_place}
use Rattle.check_rules.specs.Contexts.{names_of}
use Rattle.check_rules.specs.Visible.{entries, all_visible, names}
use Rattle.machine_check.specs.PrivateNames.{declared_in}
use Rattle.context_check.specs.Views.{visible}
use Rattle.machine_check.proofs.Declared.{declared_are}
use Rattle.context_check.proofs.Copied.{map-id}
use Rattle.machine_check.proofs.machine_names.first_in_events.Goals as goal

pub returns : goal.returns
returns c =
    c.in_ok-first.ensures
    ∙ (λ i. first_by_place (joined (map (declared_in c.args.component.now c.args.events.now (λ x. c.in_ok-known.ensures x i)) (map-id c.args.written.now i))))
    ∙ (λ i. first_by_place (joined (map (λ e. declared_are c.args.component.now c.args.events.now (names (entries (all_visible (visible c.args.view.now))) ++ names_of c.args.variables.now) e i) c.args.written.now)))
