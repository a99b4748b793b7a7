use Rattle.value_sets.proofs.Counted.{told_wide_carrier}
use Rattle.value_sets.proofs.counting.elements.Goals as goal

pub returns-else-size-lt65536 : goal.returns-else-size-lt65536
returns-else-size-lt65536 c = told_wide_carrier c.args.set.now c.args.size c.if-size-lt65536.false
