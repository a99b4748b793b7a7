use Rattle.std.proofs.Common.{◌≡◌, drop}
use Rattle.model_core.specs.Each.{for_each}
use Rattle.po_rules.specs.Gathering.{gathered}
use Rattle.po_rules.specs.Rows.{simulation_row}
use Rattle.po_machine.specs.Shared.{view, parts_in}
use Rattle.po_refine.proofs.simulation.add_each_action.Given as goal

abbrev pub invariant-loop-action : goal.invariant-loop-action
invariant-loop-action l =
    gathered (view l.out) (for_each (simulation_row l.parts.machine.now l.parts.event.now (parts_in l.parts)) (drop l.action-index l.actions))
    ≡ gathered (view l.initial.out) (for_each (simulation_row l.parts.machine.now l.parts.event.now (parts_in l.parts)) l.actions)
