use Rattle.std.proofs.Common.{◌≡◌, drop}
use Rattle.model_core.specs.Each.{for_each}
use Rattle.po_rules.specs.Gathering.{gathered}
use Rattle.po_machine.specs.Shared.{view, parts_in}
use Rattle.po_refine.specs.Private.{equality_at}
use Rattle.po_refine.proofs.equality.add_each_equality.Given as goal

abbrev pub invariant-loop-variable : goal.invariant-loop-variable
invariant-loop-variable l =
    gathered (view l.out) (for_each (equality_at l.changes (parts_in l.parts)) (drop l.variable-index l.variables))
    ≡ gathered (view l.initial.out) (for_each (equality_at l.changes (parts_in l.parts)) l.variables)
