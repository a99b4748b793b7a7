use Rattle.std.proofs.Common.{◌∙◌, ap, bytes_eq, ◌||◌}
use Rattle.model_core.specs.Borrowed.{has}
use Rattle.machine_check.proofs.Assigned.{none_yet, texts_more}
use Rattle.machine_check.proofs.event_names.add_action_labels.Goals as goal

pub loop-action-init : goal.loop-action-init
loop-action-init c = none_yet (has c.args.texts.now)

pub loop-action-preserved : goal.loop-action-preserved
loop-action-preserved c =
    texts_more (λ p x. bytes_eq x p.0) c.args.actions.now c.loop-action.action-index c.action-item.result (has c.args.texts.now) (has c.loop-action.texts) (has c.put.new.texts) c.loop-action-test.true c.action-item.is c.loop-action.invariant
    (λ x. c.in_ok-put.ensures x ∙ ap (λ n. has c.loop-action.texts x || bytes_eq x n) c.as_text.ensures.text)
