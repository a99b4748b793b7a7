use Rattle.std.proofs.Common.{◌≡◌, ◌++◌, not, map, take}
use Rattle.std.specs.List.{filter}
use Rattle.model_core.specs.Each.{for_each, is_among}
use Rattle.po_machine.proofs.parts.add_all_lost_params.Given as goal

abbrev pub invariant-loop-event : goal.invariant-loop-event
invariant-loop-event l = l.env ≡ l.initial.env ++ filter (λ x. not (is_among l.kept x.0)) (for_each (λ r. r.params) (map (λ x. x.now) (take l.event-index l.refined)))
