use Rattle.std.proofs.Common.{◌≡◌, ◌++◌, bytes_eq, map, drop}
use Rattle.std.specs.List.{filter_map, find}
use Rattle.po_machine.proofs.parts.add_named.Given as goal

abbrev pub invariant-loop-name : goal.invariant-loop-name
invariant-loop-name l =
    map (λ x. x.now) l.found.items ++ filter_map (λ name. find (λ x. bytes_eq name x.name) l.events) (drop l.name-index l.names)
    ≡ map (λ x. x.now) l.initial.found.items ++ filter_map (λ name. find (λ x. bytes_eq name x.name) l.events) l.names
