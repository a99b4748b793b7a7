use Rattle.std.proofs.Common.{◌≡◌, ◌∙◌, ◌++◌, [], ap, ℕ, List, map}
use Rattle.std.specs.List.{filter}
use Rattle.formula_core.specs.Formulas.{joined}
use Rattle.type_action.specs.CoreActions.{primed}
use Rattle.check_rules.specs.Refinements.{missing_witness_row}
use Rattle.model_core.specs.declared.fault.Fault.{Fault}
use Rattle.model_core.specs.declared.checked.CheckedEvent.{CheckedEvent}
use Rattle.model_core.specs.Each.{is_among}
use Rattle.model_core.specs.Faults.{earlier, first_by_place}
use Rattle.refine_check.specs.Private.{chosen_first, needed_params_of, bad_witnesses_of}
use Rattle.model_core.specs.Borrowed.{texts}
use Rattle.refine_check.proofs.Wanted.{bad_is}
use Rattle.refine_check.proofs.witnesses.first_bad_witness.Goals as goal

pub returns : goal.returns
returns c =
    let component : List ℕ = c.args.component.now in
    let event = c.args.event.now in
    let abstract : List CheckedEvent = map (λ x. x.now) c.args.refined.now in
    let lost : List (List ℕ) = c.args.lost.now in
    let row : List ℕ → List Fault = missing_witness_row component event.name.place c.in_ok-labels.labels [] in
    let params : List (List ℕ) = c.add_needed_params.new.found.items in
    let chosen : List (List ℕ) = texts c.in_ok-chosen.chosen.items in
    let params_are : params ≡ needed_params_of abstract c.args.kept.now event =
    c.in_ok-add_needed_params.ensures ∙ ap (λ xs. xs ++ needed_params_of abstract c.args.kept.now event) c.new-needed.ensures.items in
    let chosen_are : chosen ≡ chosen_first abstract = c.in_ok-chosen.ensures in
    c.earlier.ensures ∙ ap (λ m. earlier m c.in_ok-superfluous.superfluous) c.earlier-missing.ensures
    ∙ bad_is component params lost chosen event c.in_ok-labels.labels c.in_ok-index.index c.items-witnesses.result.now c.in_ok-param.param c.in_ok-variable.variable c.in_ok-superfluous.superfluous
    c.items-witnesses.ensures c.in_ok-labels.ensures
    (c.in_ok-index.ensures ∙ c.deref-4.ensures.value ∙ c.in_ok-add_primed.ensures ∙ ap (λ ns. params ++ map primed (filter (is_among lost) (texts ns))) c.deref-3.ensures.value)
    (c.in_ok-param.ensures ∙ ap (λ ns. first_by_place (joined (map row ns))) c.deref.ensures.value)
    (c.in_ok-variable.ensures ∙ ap (λ ns. first_by_place (joined (map row (map primed (filter (is_among (texts ns)) lost))))) c.deref-2.ensures.value)
    c.in_ok-superfluous.ensures
    ∙ (λ i. first_by_place (bad_witnesses_of component (params_are i ++ map primed (filter (is_among (chosen_are i)) lost)) event))
