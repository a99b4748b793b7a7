use Rattle.std.proofs.Common.{◌≡◌, take, fold}
use Rattle.proof_deps.specs.Prints.{mixed}
use Rattle.proof_deps.proofs.print.name_print.Given as goal

abbrev pub invariant-loop-byte : goal.invariant-loop-byte
invariant-loop-byte l = l.print ≡ fold mixed 2 (take l.byte-index l.bytes)
