use Rattle.std.proofs.Common.{◌≡◌, map, drop}
use Rattle.std.specs.List.{list_all}
use Rattle.model_core.specs.Components.{is_convergent}
use Rattle.po_machine.proofs.variant.are_convergent.Given as goal

abbrev pub invariant-loop-event : goal.invariant-loop-event
invariant-loop-event l =
    list_all (λ r. is_convergent r.convergence) (map (λ x. x.now) (drop l.event-index l.events)) ≡ list_all (λ r. is_convergent r.convergence) (map (λ x. x.now) l.events)
