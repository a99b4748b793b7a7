use Rattle.std.proofs.Common.{◌∙◌, not, ap}
use Rattle.std.specs.List.{filter}
use Rattle.type_action.specs.CoreActions.{with_all}
use Rattle.model_core.specs.Borrowed.{has}
use Rattle.machine_check.proofs.Params.{added_at}
use Rattle.machine_check.proofs.environment.add_all_lost.Goals as goal

pub loop-event-preserved : goal.loop-event-preserved
loop-event-preserved c =
    added_at (λ p. not (has c.args.kept.now p.0)) c.args.events.now c.loop-event.event-index c.event-item.result c.loop-event.env _ c.loop-event-test.true c.event-item.is
    (c.in_ok-add_lost.ensures ∙ ap (λ ps. with_all c.loop-event.env (filter (λ p. not (has c.args.kept.now p.0)) ps)) c.items.ensures)
    ∙ c.loop-event.invariant
