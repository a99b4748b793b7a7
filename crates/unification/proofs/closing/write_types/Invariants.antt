use Rattle.unification.proofs.Writes.{Writing}
use Rattle.unification.proofs.closing.write_types.Given as goal

abbrev pub invariant-loop-place : goal.invariant-loop-place
invariant-loop-place l = Writing l.nodes l.types.items l.place
