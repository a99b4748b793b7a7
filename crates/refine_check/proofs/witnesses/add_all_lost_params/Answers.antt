use Rattle.std.proofs.Common.{◌∙◌, ◌++◌, ap, append_assoc, map, not, take}
use Rattle.std.specs.List.{filter}
use Rattle.model_core.specs.Each.{is_among}
use Rattle.check_rules.specs.Visible.{names}
use Rattle.refine_check.specs.Private.{lost_param_names}
use Rattle.refine_check.proofs.Wanted.{params_more}
use Rattle.refine_check.proofs.witnesses.add_all_lost_params.Goals as goal

pub loop-event-preserved : goal.loop-event-preserved
loop-event-preserved c =
    c.in_ok-add_lost_params.ensures
    ∙ ap (λ xs. xs ++ filter (λ p. not (is_among c.args.kept.now p)) (names c.items.result.now)) c.loop-event.invariant
    ∙ append_assoc c.args.found.now.items (lost_param_names c.args.kept.now (map (λ x. x.now) (take c.loop-event.event-index c.args.refined.now))) (filter (λ p. not (is_among c.args.kept.now p)) (names c.items.result.now))
    ∙ ap (λ xs. c.args.found.now.items ++ xs) (params_more c.args.kept.now c.args.refined.now c.loop-event.event-index c.event-item.result c.items.result.now c.loop-event-test.true c.event-item.is c.items.ensures)
