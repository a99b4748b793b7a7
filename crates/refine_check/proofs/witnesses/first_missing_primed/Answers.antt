use Rattle.std.proofs.Common.{◌≡◌, ◌∙◌, [], ap, sym, ℕ, List, map, not, subst, IfOk}
use Rattle.std.specs.List.{filter, slice_get}
use Rattle.std.specs.Option.{option_map}
use Rattle.formula_core.specs.Formulas.{joined}
use Rattle.type_action.specs.CoreActions.{primed}
use Rattle.check_rules.specs.Refinements.{missing_witness_row}
use Rattle.model_core.specs.declared.fault.Fault.{Fault}
use Rattle.model_core.specs.declared.fault.FaultKind.TheVariants as kind
use Rattle.model_core.specs.Each.{is_among}
use Rattle.model_core.specs.Faults.{first_by_place, fault_at}
use Rattle.model_core.specs.Borrowed.{texts}
use Rattle.refine_check.proofs.Placing.{first_told, map_map}
use Rattle.refine_check.proofs.Wanted.{lacking_are}
use Rattle.refine_check.proofs.witnesses.first_missing_primed.Goals as goal

pub returns : goal.returns
returns c =
    let fault : List ℕ → Fault = fault_at c.args.component.now kind.BadWitness c.args.place in
    let labels : List (List ℕ) = c.args.labels.now in
    let chosen : List (List ℕ) = texts c.args.chosen.now in
    let lost : List (List ℕ) = c.args.lost.now in
    let those : List (List ℕ) = filter (λ n. not (is_among labels (primed n))) chosen in
    let those_are : texts c.deref.result.now ≡ those = ap texts c.deref.ensures.value ∙ c.in_ok-without.ensures in
    let same : option_map (λ n. fault (primed n.now)) c.first_among-first.result
    ≡ first_by_place (joined (map (missing_witness_row c.args.component.now c.args.place labels []) (map primed (filter (is_among chosen) lost)))) =
    map_map (λ n. fault (primed n)) (λ n. n.now) c.first_among-first.result
    ∙ ap (option_map (λ n. fault (primed n))) (c.first_among-first.ensures ∙ ap (λ ns. slice_get (filter (is_among ns) lost) 0) those_are)
    ∙ sym (first_told c.args.component.now kind.BadWitness c.args.place primed (filter (is_among those) lost))
    ∙ ap first_by_place (sym (lacking_are fault labels chosen lost)) in
    subst (λ x. IfOk c.told_missing.result (λ here. here ≡ x)) same c.told_missing.ensures
