use Rattle.std.proofs.Common.{◌≡◌, drop}
use Rattle.std.specs.Option.{option_copied}
use Rattle.model_core.specs.Each.{for_each}
use Rattle.po_rules.specs.Gathering.{gathered}
use Rattle.po_machine.specs.Shared.{view}
use Rattle.po_generate.specs.Private.{event_rows_in}
use Rattle.po_generate.proofs.table.add_each_event.Given as goal

abbrev pub invariant-loop-event : goal.invariant-loop-event
invariant-loop-event l =
    gathered (view l.out) (for_each (event_rows_in l.part l.machine (option_copied l.abstraction)) (drop l.event-index l.events))
    ≡ gathered (view l.initial.out) (for_each (event_rows_in l.part l.machine (option_copied l.abstraction)) l.events)
