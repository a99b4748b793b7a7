use Rattle.std.proofs.Common.{◌≡◌, drop}
use Rattle.model_core.specs.Each.{for_each}
use Rattle.po_rules.specs.Gathering.{gathered}
use Rattle.po_rules.specs.Rows.{action_row}
use Rattle.po_machine.specs.Shared.{parts_in, view}
use Rattle.po_machine.proofs.actions.add_action_rows.Given as goal

abbrev pub invariant-loop-action : goal.invariant-loop-action
invariant-loop-action l =
    gathered (view l.out) (for_each (action_row (parts_in l.parts)) (drop l.action-index l.action-items))
    ≡ gathered (view l.initial.out) (for_each (action_row (parts_in l.parts)) l.action-items)
