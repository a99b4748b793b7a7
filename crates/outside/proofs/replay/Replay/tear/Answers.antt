use Rattle.std.proofs.Common.{arith, rules}
use Rattle.outside.proofs.Stops.{grown, past_the_end}
use Rattle.outside.proofs.replay.Replay.tear.Goals as goal

pub returns-then-at-len-clause-left : goal.returns-then-at-len-clause-left
returns-then-at-len-clause-left c = past_the_end c.args.at c.args.count c.args.self.now.fill c.args.self.now.long c.args.self.now.left.items (search rules)

pub returns-clause-left : goal.returns-clause-left
returns-clause-left c =
    grown c.resize.result c.args.at c.args.count c.args.self.now.fill c.args.self.now.long c.args.self.now.left.items c.fill_inside.new.bytes c.resize.new.self.items _ c.in-Some.end c.max.result (search rules) (grind (arith, rules)) (search rules) (search rules) (grind (arith, rules)) (grind (arith, rules)) c.resize.ensures.items
