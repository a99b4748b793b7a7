use Rattle.std.proofs.Common.{◌≡◌, drop}
use Rattle.value_sets.specs.Private.{lefts_differ_behind}
use Rattle.value_sets.proofs.applying.lefts_differ_behind.Given as goal

abbrev pub invariant-loop-other : goal.invariant-loop-other
invariant-loop-other l = lefts_differ_behind l.first l.others ≡ lefts_differ_behind l.last (drop l.other-index l.others)
