use Rattle.std.proofs.Common.{◌≡◌, drop}
use Rattle.model_core.specs.Each.{for_each}
use Rattle.po_rules.specs.Gathering.{gathered}
use Rattle.po_machine.specs.Shared.{view, parts_in}
use Rattle.po_refine.specs.Private.{strengthening_row}
use Rattle.po_refine.proofs.strengthening.add_each_guard.Given as goal

abbrev pub invariant-loop-guard : goal.invariant-loop-guard
invariant-loop-guard l =
    gathered (view l.out) (for_each (strengthening_row (parts_in l.parts)) (drop l.guard-index l.guards))
    ≡ gathered (view l.initial.out) (for_each (strengthening_row (parts_in l.parts)) l.guards)
