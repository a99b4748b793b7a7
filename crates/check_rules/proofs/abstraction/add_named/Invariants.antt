use Rattle.std.proofs.Common.{◌≡◌, ◌++◌, map, drop}
use Rattle.std.specs.List.{filter_map}
use Rattle.check_rules.specs.Events.{with_event}
use Rattle.check_rules.proofs.abstraction.add_named.Given as goal

abbrev pub invariant-loop-reference : goal.invariant-loop-reference
invariant-loop-reference l =
    map (λ x. x.now) l.found.items ++ map (λ x. x.1) (filter_map (with_event l.events) (drop l.reference-index l.references))
    ≡ map (λ x. x.now) l.initial.found.items ++ map (λ x. x.1) (filter_map (with_event l.events) l.references)
