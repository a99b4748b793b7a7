use Rattle.std.proofs.Common.{◌≡◌, drop}
use Rattle.event_values.specs.Order.{ascends_behind}
use Rattle.event_values.proofs.lists.ascends_behind.Given as goal

abbrev pub invariant-loop-other : goal.invariant-loop-other
invariant-loop-other l = ascends_behind l.first l.others ≡ ascends_behind l.last (drop l.other-index l.others)
