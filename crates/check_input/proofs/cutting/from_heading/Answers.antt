use Rattle.std.proofs.Common.{rules}
use Rattle.check_input.proofs.Pieces.{passed_more}
use Rattle.check_input.proofs.cutting.from_heading.Goals as goal

pub loop-behind-preserved : goal.loop-behind-preserved
loop-behind-preserved c = (search rules, passed_more c.args.text.now c.loop-behind.rest.now c.in-Some.behind.now c.loop-behind.invariant.1 c.in-Some.ensures.cases)
