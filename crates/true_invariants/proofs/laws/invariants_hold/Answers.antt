use Rattle.true_invariants.proofs.Reached.{reached_keep}
use Rattle.true_invariants.proofs.laws.invariants_hold.Goals as goal

-- src/laws.rt:6:1
pub returns : goal.returns
returns c m good none valid shape test U state reached = reached_keep U m good none (λ o is. valid o is shape test U) state reached
