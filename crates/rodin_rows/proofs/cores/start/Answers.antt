use Rattle.std.proofs.Common.{List, ℕ}
use Rattle.core_steps.proofs.NameMaps.{entries-empty}
use Rattle.core_steps.proofs.Projects.{empty_small}
use Rattle.rodin_rows.proofs.cores.start.Goals as goal

pub start-requires-clause-texts : goal.start-requires-clause-texts
start-requires-clause-texts g c = rw c.empty.ensures empty_small

pub start-requires-clause-built : goal.start-requires-clause-built
start-requires-clause-built g c = rw c.empty.ensures (rw (entries-empty {X = List ℕ}) tt)
