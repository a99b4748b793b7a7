use Rattle.std.proofs.Common.{◌∙◌, ap, bytes_eq, ◌||◌}
use Rattle.model_core.specs.Borrowed.{has}
use Rattle.machine_check.proofs.Assigned.{none_yet, texts_more}
use Rattle.machine_check.proofs.event_names.add_formula_labels.Goals as goal

pub loop-one-init : goal.loop-one-init
loop-one-init c = none_yet (has c.args.texts.now)

pub loop-one-preserved : goal.loop-one-preserved
loop-one-preserved c =
    texts_more (λ p x. bytes_eq x p.label) c.args.labelled.now c.loop-one.one-index c.one-item.result (has c.args.texts.now) (has c.loop-one.texts) (has c.put.new.texts) c.loop-one-test.true c.one-item.is c.loop-one.invariant
    (λ x. c.in_ok-put.ensures x ∙ ap (λ n. has c.loop-one.texts x || bytes_eq x n) (c.as_text.ensures.text ∙ c.get.ensures))
