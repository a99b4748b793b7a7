use Rattle.std.proofs.Common.{◌≡◌, map, take}
use Rattle.po_refine.specs.Private.{enabled}
use Rattle.po_refine.proofs.merging.guards_of_each.Given as goal

abbrev pub invariant-loop-event : goal.invariant-loop-event
invariant-loop-event l = l.guards.items ≡ map enabled (map (λ x. x.now) (take l.event-index l.events))
