use Rattle.std.proofs.Common.{◌≡◌, ◌++◌, drop}
use Rattle.std.specs.List.{filter_map}
use Rattle.check_rules.specs.Events.{with_event}
use Rattle.refine_check.specs.Private.{found_at}
use Rattle.refine_check.proofs.merged.add_found.Given as goal

abbrev pub invariant-loop-reference : goal.invariant-loop-reference
invariant-loop-reference l =
    found_at l.found.items ++ filter_map (with_event l.events) (drop l.reference-index l.references)
    ≡ found_at l.initial.found.items ++ filter_map (with_event l.events) l.references
