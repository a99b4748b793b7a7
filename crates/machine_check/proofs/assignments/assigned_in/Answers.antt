use Rattle.std.proofs.Common.{◌∙◌, ap, ◌||◌}
use Rattle.std.specs.List.{list_any}
use Rattle.model_core.specs.Each.{is_among}
use Rattle.check_rules.specs.Assignments.{assigned}
use Rattle.context_check.proofs.Repeated.{has_none}
use Rattle.machine_check.proofs.Targets.{all_assigned_any}
use Rattle.machine_check.proofs.assignments.assigned_in.Goals as goal

pub returns : goal.returns
returns c =
    λ x. c.in_ok-add_all_assigned.ensures x ∙ ap (λ b. b || list_any (λ a. is_among (assigned a.1) x) c.args.actions.now) (has_none c.new-texts.result c.new-texts.ensures.empty x) ∙ all_assigned_any c.args.actions.now x
