use Rattle.meanings.proofs.FiniteSets.{finite_is_listed}
use Rattle.meanings.proofs.laws.finite_sets_are_listed.Goals as goal

-- src/laws.rt:5:1
pub returns : goal.returns
returns c shape test U s set = finite_is_listed U s set
