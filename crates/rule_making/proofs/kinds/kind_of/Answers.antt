use Rattle.std.proofs.Common.{sym}
use Rattle.rule_making.proofs.KindNumbers.{none_past}
use Rattle.rule_making.proofs.kinds.kind_of.Goals as goal

pub returns-then-number-gt35 : goal.returns-then-number-gt35
returns-then-number-gt35 c = sym (none_past c.args.number c.args.hint.now c.args.terms.now c.if-number-gt35.true)
