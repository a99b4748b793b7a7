use Rattle.std.proofs.Common.{◌∙◌, ap, bytes_eq, ◌||◌}
use Rattle.model_core.specs.Borrowed.{has}
use Rattle.machine_check.proofs.Assigned.{none_yet, texts_more}
use Rattle.machine_check.proofs.assignments.add_names.Goals as goal

pub loop-name-init : goal.loop-name-init
loop-name-init c = none_yet (has c.args.texts.now)

pub loop-name-preserved : goal.loop-name-preserved
loop-name-preserved c =
    texts_more (λ n x. bytes_eq x n) c.args.names.now c.loop-name.name-index c.name-item.result (has c.args.texts.now) (has c.loop-name.texts) (has c.put.new.texts) c.loop-name-test.true c.name-item.is c.loop-name.invariant
    (λ x. c.in_ok-put.ensures x ∙ ap (λ n. has c.loop-name.texts x || bytes_eq x n) c.as_text.ensures.text)
