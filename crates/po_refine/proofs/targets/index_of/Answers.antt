use Rattle.std.proofs.Common.{[]}
use Rattle.po_machine.proofs.Sets.{at_empty, seen_more}
use Rattle.po_refine.proofs.targets.index_of.Goals as goal

pub loop-name-init : goal.loop-name-init
loop-name-init c = at_empty c.new-index.result c.new-index.ensures.empty

pub loop-name-preserved : goal.loop-name-preserved
loop-name-preserved c =
    seen_more c.args.list.now c.loop-name.name-index (record { ref_ptr = (0, 0); now = [] }) c.loop-name-test.true c.loop-name.index c.insert.new.self c.in_ok-insert.ensures.updates c.loop-name.invariant
