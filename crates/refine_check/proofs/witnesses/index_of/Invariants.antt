use Rattle.std.proofs.Common.{◌≡◌, take}
use Rattle.model_core.specs.Borrowed.{texts}
use Rattle.refine_check.proofs.witnesses.index_of.Given as goal

abbrev pub invariant-loop-name : goal.invariant-loop-name
invariant-loop-name l = texts l.found.items ≡ take l.name-index l.needed
