use Rattle.std.proofs.Common.{map, take}
use Rattle.std.specs.Arc.{arc_value}
use Rattle.std.specs.List.{AllByRecursion}
use Rattle.core_steps.specs.Tickets.{CanTake}
use Rattle.table_lookup.proofs.lookup.first_open.Given as goal

abbrev pub invariant-loop-at : goal.invariant-loop-at
invariant-loop-at l = AllByRecursion (λ o. CanTake l.proofs l.out l.tried o → ⊥) (take l.at (map arc_value l.table))
