use Rattle.std.proofs.Common.{◌∙◌, ◌++◌, [], ap, map, not}
use Rattle.std.specs.List.{filter}
use Rattle.std.specs.Option.{option_copied}
use Rattle.formula_core.specs.Formulas.{joined}
use Rattle.model_core.specs.Each.{is_among}
use Rattle.model_core.specs.Faults.{earlier, first_by_place}
use Rattle.check_rules.specs.Contexts.{labels_of}
use Rattle.check_rules.specs.Declarations.{declared_twice, labelled_twice}
use Rattle.check_rules.specs.Events.{event_declarations}
use Rattle.check_rules.specs.Machines.{abstract_events, abstract_variables, own_names}
use Rattle.check_rules.specs.Visible.{entries, all_visible, names}
use Rattle.machine_check.specs.PrivateMachine.{written_of}
use Rattle.context_check.specs.Views.{visible}
use Rattle.machine_check.proofs.Events.{four}
use Rattle.machine_check.proofs.machine_names.first_own_declaration.Goals as goal

pub returns : goal.returns
returns c =
    let m = option_copied c.args.abstraction in
    let w = written_of c.args.written.now in
    let seen = names (entries (all_visible (visible c.args.view.now))) in
    c.earlier-3.ensures ∙ ap (λ f. earlier f c.in_ok-in_events.in_events) (c.earlier-2.ensures ∙ ap (λ f. earlier f c.in_ok-event.event) c.earlier.ensures)
    ∙ (λ i. earlier (earlier (earlier
    ((c.in_ok-variable.ensures ∙ ap (λ ks. first_by_place (declared_twice w.name.name (filter (λ n. not (is_among ks n)) seen) w.variables)) c.abstract_variables-kept.ensures) i)
    (c.in_ok-label.ensures i)) (c.in_ok-event.ensures i))
    ((c.in_ok-in_events.ensures ∙ ap (λ es. first_by_place (joined (map (event_declarations w.name.name es (seen ++ own_names w)) w.events))) c.requires) i))
    ∙ four (declared_twice w.name.name (filter (λ n. not (is_among (abstract_variables m) n)) seen) w.variables) (labelled_twice w.name.name [] (labels_of w.invariants))
    (declared_twice w.name.name [] (map (λ e. e.name) w.events)) (joined (map (event_declarations w.name.name (abstract_events m) (seen ++ own_names w)) w.events))
