use Rattle.std.proofs.Common.{◌≡◌, take, map}
use Rattle.proof_deps.specs.Prints.{print_of}
use Rattle.proof_deps.proofs.print.prints_of.Given as goal

abbrev pub invariant-loop-formula : goal.invariant-loop-formula
invariant-loop-formula l = l.prints.items ≡ map print_of (take l.formula-index l.formulas)
