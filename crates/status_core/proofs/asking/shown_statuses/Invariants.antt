use Rattle.std.proofs.Common.{map, take}
use Rattle.std.specs.Arc.{arc_value}
use Rattle.std.specs.List.{AllZip}
use Rattle.core_steps.specs.Status.{Shows}
use Rattle.status_core.proofs.asking.shown_statuses.Given as goal

abbrev pub invariant-loop-at : goal.invariant-loop-at
invariant-loop-at l = AllZip (Shows l.proofs) (take l.at (map arc_value l.table)) l.shown.items
