use Rattle.std.proofs.Common.{◌≡◌, map, take}
use Rattle.po_machine.proofs.predicates.types_of.Given as goal

abbrev pub invariant-loop-identifier : goal.invariant-loop-identifier
invariant-loop-identifier l = l.types.items ≡ map (λ x. x.1) (take l.identifier-index l.identifiers)
