use Rattle.std.proofs.Common.{◌≡◌, ◌-◌, ◌^◌, map, min, sum, take}
use Rattle.formula_core.specs.Sizes.{formula_nodes}
use Rattle.po_machine.specs.Private.{referenced}
use Rattle.po_machine.proofs.needed.nodes_of_all.Given as goal

abbrev pub invariant-loop-formula : goal.invariant-loop-formula
invariant-loop-formula l = l.total ≡ min (sum (map formula_nodes (referenced (take l.formula-index l.formulas)))) (2 ^ 64 - 1)
