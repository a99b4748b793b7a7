use Rattle.std.proofs.Common.{◌∙◌, ap, ◌||◌, ◌++◌, map}
use Rattle.formula_core.specs.Formulas.{joined}
use Rattle.model_core.specs.declared.fault.FaultKind.TheVariants as kind
use Rattle.model_core.specs.Each.{is_among}
use Rattle.model_core.specs.Faults.{earlier, first_by_place}
use Rattle.check_rules.specs.Visible.{names}
use Rattle.check_rules.specs.Events.{extended_of, params_inherited, inherited_params, inherited_labels, event_labels}
use Rattle.context_check.specs.Texts.{ref_mark, repeated}
use Rattle.model_core.specs.Borrowed.{has}
use Rattle.machine_check.specs.PrivateNames.{clash_at}
use Rattle.machine_check.specs.PrivateTyped.{guards_in, actions_in}
use Rattle.context_check.proofs.Copied.{map-id}
use Rattle.context_check.proofs.Contexts.{three}
use Rattle.machine_check.proofs.event_names.first_declared.Goals as goal

pub returns : goal.returns
returns c =
    let params = c.inherited_params-params.ensures ∙ ap (params_inherited c.args.event.now) (ap (λ rs. map (λ x. x.now) rs) c.deref.ensures.value ∙ c.in_ok-refined.ensures) in
    let extended = c.extended-extended.ensures ∙ ap (extended_of c.args.event.now) (ap (λ rs. map (λ x. x.now) rs) c.deref-2.ensures.value ∙ c.in_ok-refined.ensures) in
    let guards = c.guards_in.ensures ∙ ap guards_in extended in
    let actions = c.actions_in.ensures ∙ ap actions_in extended in
    c.earlier-2.ensures ∙ ap (λ f. earlier f c.in_ok-label.label) c.earlier.ensures
    ∙ three (joined (map (clash_at c.args.component.now c.args.events.now (has c.args.known.now)) c.args.event.now.refines))
    (repeated kind.DeclaredTwice c.args.component.now (λ x. has c.args.known.now x || is_among (names (inherited_params c.args.events.now c.args.event.now)) x) (map ref_mark c.args.event.now.params))
    (repeated kind.LabelTwice c.args.component.now (is_among (inherited_labels c.args.events.now c.args.event.now)) (event_labels c.args.event.now))
    c.in_ok-clash.clash c.in_ok-twice.twice c.in_ok-label.label
    (c.in_ok-clash.ensures ∙ ap (λ rs. first_by_place (joined (map (clash_at c.args.component.now c.args.events.now (has c.args.known.now)) rs))) (map-id c.items.result.now ∙ c.items.ensures))
    (c.in_ok-twice.ensures ∙ (λ i. first_by_place (repeated kind.DeclaredTwice c.args.component.now (λ x. has c.args.known.now x || is_among (names (params i)) x) (map ref_mark (c.items-2.ensures i)))))
    (c.in_ok-label.ensures ∙ (λ i. first_by_place (repeated kind.LabelTwice c.args.component.now (is_among (map (λ l. l.label) (guards i) ++ map (λ a. a.0) (actions i))) (event_labels c.args.event.now))))
