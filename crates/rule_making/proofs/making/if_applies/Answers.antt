use Rattle.std.proofs.Common.{refl}
use Rattle.rule_making.specs.Private.{IsMetBy}
use Rattle.rule_making.proofs.Tested.{no_test, test}
use Rattle.rule_making.proofs.making.if_applies.Goals as goal

pub returns-then-applies : goal.returns-then-applies
returns-then-applies c = (test c.applies.result (IsMetBy c.args.sequent.now c.args.rule) c.applies.ensures c.if-applies.true, refl)

pub returns-else-applies : goal.returns-else-applies
returns-else-applies c = no_test c.applies.result (IsMetBy c.args.sequent.now c.args.rule) c.applies.ensures c.if-applies.false
