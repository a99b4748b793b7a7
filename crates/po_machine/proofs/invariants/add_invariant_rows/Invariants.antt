use Rattle.std.proofs.Common.{◌≡◌, drop}
use Rattle.model_core.specs.Each.{for_each}
use Rattle.po_rules.specs.Gathering.{gathered}
use Rattle.po_rules.specs.Rows.{invariant_row}
use Rattle.po_machine.specs.Shared.{parts_in, view}
use Rattle.po_machine.proofs.invariants.add_invariant_rows.Given as goal

abbrev pub invariant-loop-invariant : goal.invariant-loop-invariant
invariant-loop-invariant l =
    gathered (view l.out) (for_each (invariant_row l.parts.event.now (parts_in l.parts)) (drop l.invariant-index l.invariant-items))
    ≡ gathered (view l.initial.out) (for_each (invariant_row l.parts.event.now (parts_in l.parts)) l.invariant-items)
