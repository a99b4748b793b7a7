use Rattle.std.proofs.Common.{map, not}
use Rattle.std.specs.List.{filter}
use Rattle.model_core.specs.Borrowed.{has}
use Rattle.context_check.proofs.Views.{append_none, filter_mapped, grows}
use Rattle.machine_check.proofs.machine_parts.add_unrefined.Goals as goal

pub loop-event-init : goal.loop-event-init
loop-event-init c = append_none c.args.names.now.items

pub loop-event-preserved : goal.loop-event-preserved
loop-event-preserved c =
    grows (λ es. filter (λ n. not (has c.args.refined.now n)) (map (λ e. e.name) es)) (filter_mapped (λ n. not (has c.args.refined.now n)) (λ e. e.name)) c.args.events.now c.loop-event.event-index c.event-item.result
    c.args.names.now.items c.loop-event.names.items c.push_unless.new.names.items c.loop-event-test.true c.event-item.is c.loop-event.invariant c.in_ok-push_unless.ensures
