use Rattle.std.proofs.Common.{◌∙◌, sym}
use Rattle.type_formula.proofs.Entries.{wanted_here, wanted_later}
use Rattle.type_formula.proofs.scope.find_wanted.Goals as goal

pub returns-then-same : goal.returns-then-same
returns-then-same c =
    sym (wanted_here c.args.wanted.now c.loop-i.i c.index-wanted-i.result c.args.name.now c.loop-i-test.true c.index-wanted-i.is (sym c.if-same.ensures.test)) ∙ c.loop-i.invariant

pub loop-i-preserved : goal.loop-i-preserved
loop-i-preserved c =
    wanted_later c.args.wanted.now c.loop-i.i c.index-wanted-i.result c.args.name.now c.loop-i-test.true c.index-wanted-i.is (sym c.if-same.ensures.test) ∙ c.loop-i.invariant
