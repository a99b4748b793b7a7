use Rattle.std.proofs.Common.{◌∙◌, ◌||◌, sym, ap, bytes_eq}
use Rattle.std.specs.List.{list_any}
use Rattle.model_core.specs.Each.{is_among}
use Rattle.model_core.proofs.Lists.{any_append, any_map}
use Rattle.check_rules.specs.Contexts.{names_of}
use Rattle.check_rules.specs.Visible.{names}
use Rattle.context_check.proofs.Repeated.{has_none}
use Rattle.machine_check.proofs.environment.param_names.Goals as goal

pub returns : goal.returns
returns c =
    let inherited = c.args.inherited.now in
    let own = c.args.own.now in
    λ x.
    c.in_ok-add_ref_names.ensures x
    ∙ ap (λ b. b || is_among (names_of own) x)
    (c.in_ok-add_names_of.ensures x ∙ ap (λ b. b || list_any (λ p. bytes_eq x p.0) inherited) (has_none c.new-found.result c.new-found.ensures.empty x) ∙ sym (any_map (bytes_eq x) (λ e. e.0) inherited))
    ∙ sym (any_append (bytes_eq x) (names inherited) (names_of own))
