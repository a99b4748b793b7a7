use Rattle.std.proofs.Common.{take}
use Rattle.build_core.specs.Private.{IsIndex}
use Rattle.build_core.proofs.index.index_of.Given as goal

abbrev pub invariant-loop-place : goal.invariant-loop-place
invariant-loop-place l = IsIndex (take l.place l.components) l.index.entries
