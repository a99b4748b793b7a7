use Rattle.std.proofs.Common.{◌≡◌, ◌++◌, drop}
use Rattle.model_core.specs.Each.{for_each}
use Rattle.po_rules.specs.Rows.{simulated_value}
use Rattle.po_machine.specs.Shared.{parts_in}
use Rattle.po_refine.proofs.simulation.values_of.Given as goal

abbrev pub invariant-loop-pair : goal.invariant-loop-pair
invariant-loop-pair l =
    l.values.items ++ for_each (simulated_value l.parts.machine.now (parts_in l.parts)) (drop l.pair-index l.pairs)
    ≡ for_each (simulated_value l.parts.machine.now (parts_in l.parts)) l.pairs
