use Rattle.std.specs.Option.{option_copied}
use Rattle.po_machine.specs.Shared.{view}
use Rattle.po_machine.proofs.Gathering.{next_gathered}
use Rattle.po_generate.specs.Private.{event_rows_in}
use Rattle.po_generate.proofs.table.add_each_event.Goals as goal

pub loop-event-preserved : goal.loop-event-preserved
loop-event-preserved c =
    next_gathered (event_rows_in c.args.part c.args.machine.now (option_copied c.args.abstraction)) c.args.events.now c.loop-event.event-index c.event-item.result
    (view c.loop-event.out) (view c.add_event_rows.new.out) _ c.loop-event-test.true c.event-item.is c.loop-event.invariant c.in_ok-add_event_rows.ensures
