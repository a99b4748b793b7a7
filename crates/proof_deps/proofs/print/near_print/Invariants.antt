use Rattle.std.proofs.Common.{◌≡◌, take, fold}
use Rattle.proof_deps.specs.Prints.{mixed, root_print}
use Rattle.proof_deps.proofs.print.near_print.Given as goal

abbrev pub invariant-loop-part : goal.invariant-loop-part
invariant-loop-part l = l.print ≡ fold (λ print part. mixed print (root_print part)) (root_print l.formula) (take l.part-index l.parts)
