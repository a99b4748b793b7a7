use Rattle.std.proofs.Common.{◌∙◌, ◌++◌, ap, map, not}
use Rattle.std.specs.List.{filter}
use Rattle.formula_core.specs.Formulas.{joined}
use Rattle.type_action.specs.CoreActions.{with_all}
use Rattle.model_core.specs.Each.{is_among}
use Rattle.check_rules.specs.Contexts.{names_of}
use Rattle.check_rules.specs.Visible.{names}
use Rattle.model_core.specs.Borrowed.{has}
use Rattle.machine_check.proofs.Growing.{by_two}
use Rattle.machine_check.proofs.Params.{behind, params_of}
use Rattle.machine_check.proofs.environment.add_witness_names.Goals as goal

pub returns : goal.returns
returns c =
    let env = c.args.env.now in
    let own = c.args.added.now in
    let found = c.args.refined.now in
    let kept = has c.in_ok-kept.kept in
    let added = c.in_ok-add_all_lost.ensures ∙ ap (λ x. with_all x (filter (λ p. not (kept p.0)) (params_of found))) c.in_ok-add_all.ensures in
    record {
      names = added
          ∙ (λ i. with_all (with_all env own) (filter (λ p. not (c.in_ok-kept.ensures p.0 i)) (behind found i)))
          ∙ (λ i. with_all (with_all env own)
          (filter (λ p. not (is_among (names (c.inherited_params-inherited.ensures i) ++ names_of (c.items.ensures i)) p.0)) (joined (map (λ a. a.params) (map (λ x. x.now) found)))));
      grown = by_two env own (filter (λ p. not (kept p.0)) (params_of found)) c.add_all_lost.new.env added;
    }
