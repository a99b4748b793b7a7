use Rattle.std.proofs.Common.{refl, sym}
use Rattle.component_text.specs.Forms.{limits}
use Rattle.component_text.specs.Machines.{EventPart, begins_event, EventList}
use Rattle.component_text.proofs.Components.{exit_with}
use Rattle.component_text.proofs.Refusing.{many_later, many_later_passes}
use Rattle.component_text.proofs.Stops.{many_more, many_done, many_stop}
use Rattle.component_text.proofs.Machines.{good_event, event_takes, leaves_event}
use Rattle.component_text.proofs.machine.event_list.Goals as goal

pub returns-in_err-event : goal.returns-in_err-event
returns-in_err-event c =
    exit_with EventList c.args.cursor.now c.event.new.cursor c.from_residual.result c.in_err-event.field-0.0 c.from_residual.ensures.1
    (many_stop begins_event (EventPart) good_event refl event_takes c.args.cursor.now c.loop-alloc.cursor c.event.new.cursor c.in_err-event.field-0.0 (sym c.loop-alloc-test.ensures) c.in_err-event.ensures
    c.loop-alloc.invariant.refused c.loop-alloc.invariant.passed)

pub loop-alloc-smaller : goal.loop-alloc-smaller
loop-alloc-smaller c = event_takes limits c.loop-alloc.cursor c.in_ok-event.event c.event.new.cursor c.in_ok-event.ensures

pub loop-alloc-preserved : goal.loop-alloc-preserved
loop-alloc-preserved c =
    let here = sym c.loop-alloc-test.ensures in
    record {
      read = λ xs rest k.
          rw c.in_ok-push.ensures.items
          (many_more begins_event (EventPart) good_event refl event_takes c.loop-alloc.events.items c.args.cursor.now c.loop-alloc.cursor c.event.new.cursor c.in_ok-event.event here c.in_ok-event.ensures c.loop-alloc.invariant.read xs rest k);
      refused = λ rest k. c.loop-alloc.invariant.refused rest
          (many_later begins_event (EventPart) good_event refl event_takes leaves_event c.loop-alloc.cursor c.event.new.cursor rest c.in_ok-event.event here c.in_ok-event.ensures k);
      passed = λ rest k. c.loop-alloc.invariant.passed rest
          (many_later_passes begins_event (EventPart) good_event refl event_takes leaves_event c.loop-alloc.cursor c.event.new.cursor rest c.in_ok-event.event here c.in_ok-event.ensures k);
    }

pub returns : goal.returns
returns c = rw c.of.ensures (many_done begins_event (EventPart) good_event refl event_takes c.loop-alloc.events.items c.args.cursor.now c.loop-alloc.cursor (sym c.loop-alloc-test.ensures) c.loop-alloc.invariant.read)
