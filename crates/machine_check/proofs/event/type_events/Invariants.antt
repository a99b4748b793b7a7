use Rattle.std.proofs.Common.{◌≡◌, take}
use Rattle.check_rules.specs.Events.{primed_env}
use Rattle.machine_check.specs.PrivateTyped.{AreTypedEventsSoFar}
use Rattle.machine_check.proofs.event.type_events.Given as goal

abbrev pub invariant-loop-event : goal.invariant-loop-event
invariant-loop-event l =
    (l.env ≡ l.initial.env) × (l.primed ≡ primed_env l.initial.env l.variables)
    × AreTypedEventsSoFar l.component l.events l.variables l.initial.env (take l.event-index l.written) l.typed.items l.first
