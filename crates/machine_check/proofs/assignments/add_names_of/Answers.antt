use Rattle.std.proofs.Common.{◌∙◌, ap, bytes_eq, ◌||◌}
use Rattle.model_core.specs.Borrowed.{has}
use Rattle.machine_check.proofs.Assigned.{none_yet, texts_more}
use Rattle.machine_check.proofs.assignments.add_names_of.Goals as goal

pub loop-pair-init : goal.loop-pair-init
loop-pair-init g c = none_yet (has c.args.texts.now)

pub loop-pair-preserved : goal.loop-pair-preserved
loop-pair-preserved g c =
    texts_more (λ p x. bytes_eq x p.0) c.args.pairs.now c.loop-pair.pair-index c.pair-item.result (has c.args.texts.now) (has c.loop-pair.texts) (has c.put.new.texts) c.loop-pair-test.true c.pair-item.is c.loop-pair.invariant
    (λ x. c.in_ok-put.ensures x ∙ ap (λ n. has c.loop-pair.texts x || bytes_eq x n) c.as_text.ensures.text)
