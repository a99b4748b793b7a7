use Rattle.std.proofs.Common.{◌∙◌, sym, ap, not, ◌||◌}
use Rattle.std.specs.List.{list_all}
use Rattle.model_core.specs.Each.{is_among}
use Rattle.check_rules.specs.Assignments.{all_assigned}
use Rattle.machine_check.proofs.Targets.{all_map}
use Rattle.machine_check.proofs.assignments.is_bad_start.Goals as goal

pub returns : goal.returns
returns c =
    let complete = c.all_known-complete.ensures
    ∙ (λ i. list_all (λ r. (c.in_ok-texts.ensures r.name ∙ ap (λ xs. is_among (all_assigned xs) r.name) c.items.ensures) i) c.args.own.now)
    ∙ sym (all_map (is_among (all_assigned c.args.event.now.actions)) (λ r. r.name) c.args.own.now) in
    c.is_bad.ensures ∙ (λ i. c.has_parts.ensures i || not (complete i))
