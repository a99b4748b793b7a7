use Rattle.std.proofs.Common.{◌≡◌, ◌++◌, map, take}
use Rattle.context_check.specs.Texts.{mark_of, ref_mark}
use Rattle.machine_check.proofs.machine_names.add_events.Given as goal

abbrev pub invariant-loop-event : goal.invariant-loop-event
invariant-loop-event l = map mark_of l.marks.items ≡ map mark_of l.initial.marks.items ++ map (λ e. ref_mark e.name) (take l.event-index l.events)
