use Rattle.std.proofs.Common.{◌≡◌, ◌++◌, map, take}
use Rattle.refine_check.specs.Private.{lost_param_names}
use Rattle.refine_check.proofs.witnesses.add_all_lost_params.Given as goal

abbrev pub invariant-loop-event : goal.invariant-loop-event
invariant-loop-event l = l.found.items ≡ l.initial.found.items ++ lost_param_names l.kept (map (λ x. x.now) (take l.event-index l.refined))
