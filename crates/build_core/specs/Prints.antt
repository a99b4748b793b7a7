-- Numbers of hypotheses, by which they are looked for.
use Rattle.std.specs.Prelude.{ℕ, List, map}
use Rattle.sequent_core.specs.declared.sequent.Obligation.{Obligation}
use Rattle.proof_deps.specs.Prints.{print_of}

-- the numbers of an obligation's hypotheses
abbrev pub prints_in : Obligation → List ℕ
prints_in o = map print_of o.sequent.hyps
