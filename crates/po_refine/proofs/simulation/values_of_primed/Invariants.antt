use Rattle.std.proofs.Common.{◌≡◌, map, take}
use Rattle.po_machine.specs.Shared.{parts_in}
use Rattle.po_refine.specs.Private.{value_of_primed}
use Rattle.po_refine.proofs.simulation.values_of_primed.Given as goal

abbrev pub invariant-loop-target : goal.invariant-loop-target
invariant-loop-target l = l.pairs.items ≡ map (value_of_primed (parts_in l.parts)) (take l.target-index l.targets)
