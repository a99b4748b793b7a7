use Rattle.std.proofs.Common.{◌∙◌, sym, ap, map}
use Rattle.std.specs.List.{filter}
use Rattle.formula_core.specs.Formulas.{joined}
use Rattle.model_core.specs.Faults.{first_by_place, earlier}
use Rattle.model_core.proofs.Firsts.{first_append}
use Rattle.check_rules.specs.Contexts.{names_of}
use Rattle.check_rules.specs.Events.{is_initialisation}
use Rattle.check_rules.specs.Assignments.{no_start}
use Rattle.model_core.specs.Borrowed.{has}
use Rattle.machine_check.specs.PrivateEvents.{both_of, bad_start_in}
use Rattle.machine_check.proofs.assignments.first_bad_start.Goals as goal

pub returns : goal.returns
returns c =
    let none = c.in_ok-none.ensures
    ∙ ap (λ s. first_by_place (no_start c.args.component.now.name c.args.component.now.place s)) (ap (map both_of) c.deref.ensures.value ∙ c.in_ok-starts.ensures) in
    let bad = c.in_ok-bad.ensures
    ∙ ap (λ s. first_by_place (joined (map (bad_start_in c.args.component.now.name (names_of c.args.own.now) (has c.args.variables.now)) s))) (ap (map both_of) c.deref-2.ensures.value ∙ c.in_ok-starts.ensures) in
    c.earlier.ensures ∙ (λ i. earlier (none i) (bad i))
    ∙ sym (first_append (no_start c.args.component.now.name c.args.component.now.place (filter (λ e. is_initialisation e.0) (map both_of c.args.events.now)))
    (joined (map (bad_start_in c.args.component.now.name (names_of c.args.own.now) (has c.args.variables.now)) (filter (λ e. is_initialisation e.0) (map both_of c.args.events.now)))))
