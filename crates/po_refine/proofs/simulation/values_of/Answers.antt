use Rattle.po_rules.specs.Rows.{simulated_value}
use Rattle.po_machine.specs.Shared.{parts_in}
use Rattle.po_refine.proofs.Steps.{each_next}
use Rattle.po_refine.proofs.simulation.values_of.Goals as goal

pub loop-pair-preserved : goal.loop-pair-preserved
loop-pair-preserved c =
    each_next (simulated_value c.args.parts.now.machine.now (parts_in c.args.parts.now)) c.args.pairs.now c.loop-pair.pair-index c.pair-item.result
    c.loop-pair.values.items c.add_value.new.values.items _ c.loop-pair-test.true c.pair-item.is c.loop-pair.invariant c.in_ok-add_value.ensures
