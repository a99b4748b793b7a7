use Rattle.std.proofs.Common.{◌∙◌, ap}
use Rattle.rule_table.specs.Rules.{antecedent_formulas}
use Rattle.instance_size.specs.Private.{room_over}
use Rattle.instance_size.proofs.AllFit.{left_over_more}
use Rattle.instance_size.proofs.room.room_over_left.Goals as goal

pub loop-antecedent-preserved : goal.loop-antecedent-preserved
loop-antecedent-preserved c =
    c.room_over_antecedent-room.ensures ∙ ap (λ r. room_over r (antecedent_formulas c.antecedent-item.result)) c.loop-antecedent.invariant
    ∙ left_over_more c.args.room c.args.antecedents.now c.loop-antecedent.antecedent-index c.antecedent-item.result c.loop-antecedent-test.true c.antecedent-item.is
