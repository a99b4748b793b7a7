use Rattle.std.proofs.Common.{◌≡◌, ◌∙◌, ap, sym, ℕ, List, map, subst, IfOk}
use Rattle.std.specs.List.{filter, slice_get}
use Rattle.std.specs.Option.{option_map}
use Rattle.model_core.specs.declared.fault.Fault.{Fault}
use Rattle.model_core.specs.declared.fault.FaultKind.TheVariants as kind
use Rattle.model_core.specs.Each.{is_among}
use Rattle.model_core.specs.Faults.{first_by_place, fault_at}
use Rattle.check_rules.specs.Refinements.{inherited_names}
use Rattle.model_core.specs.Borrowed.{texts}
use Rattle.refine_check.proofs.Placing.{first_told, map_map}
use Rattle.refine_check.proofs.inherited.first_lost_in_inherited.Goals as goal

pub returns : goal.returns
returns c =
    let fault : List ℕ → Fault = fault_at c.args.component.now kind.Lost c.args.event.now.name.place in
    let lost : List (List ℕ) = c.args.lost.now in
    let named : texts c.deref-2.result.now ≡ inherited_names c.args.typed.now = ap texts c.deref-2.ensures.value ∙ c.in_ok-inherited.ensures ∙ c.deref.ensures.value ∙ c.in_ok-names.ensures in
    let same : option_map (λ n. fault n.now) c.first_among-first.result ≡ first_by_place (map fault (filter (is_among (inherited_names c.args.typed.now)) lost)) =
    map_map fault (λ n. n.now) c.first_among-first.result
    ∙ ap (option_map fault) (c.first_among-first.ensures ∙ ap (λ ns. slice_get (filter (is_among ns) lost) 0) named)
    ∙ sym (first_told c.args.component.now kind.Lost c.args.event.now.name.place (λ n. n) (filter (is_among (inherited_names c.args.typed.now)) lost)) in
    subst (λ x. IfOk c.told_lost.result (λ first. first ≡ x)) same c.told_lost.ensures
