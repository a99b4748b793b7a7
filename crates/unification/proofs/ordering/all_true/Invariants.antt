use Rattle.std.proofs.Common.{◌≡◌, vec_len}
use Rattle.unification.proofs.ordering.all_true.Given as goal

abbrev pub invariant-loop : goal.invariant-loop
invariant-loop l = vec_len l.sorts ≡ l.counter
