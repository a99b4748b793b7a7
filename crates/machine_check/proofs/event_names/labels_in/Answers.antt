use Rattle.std.proofs.Common.{◌∙◌, sym, ap, ◌||◌, map, bytes_eq}
use Rattle.std.specs.List.{list_any}
use Rattle.model_core.proofs.Lists.{any_map, any_append}
use Rattle.context_check.proofs.Repeated.{has_none}
use Rattle.machine_check.proofs.event_names.labels_in.Goals as goal

pub returns : goal.returns
returns c =
    λ x. c.in_ok-add_action_labels.ensures x
    ∙ ap (λ b. b || list_any (λ a. bytes_eq x a.0) c.args.actions.now)
    (c.in_ok-add_formula_labels.ensures x ∙ ap (λ b. b || list_any (λ l. bytes_eq x l.label) c.args.guards.now) (has_none c.new-texts.result c.new-texts.ensures.empty x))
    ∙ (λ i. sym (any_map (bytes_eq x) (λ l. l.label) c.args.guards.now) i || sym (any_map (bytes_eq x) (λ a. a.0) c.args.actions.now) i)
    ∙ sym (any_append (bytes_eq x) (map (λ l. l.label) c.args.guards.now) (map (λ a. a.0) c.args.actions.now))
