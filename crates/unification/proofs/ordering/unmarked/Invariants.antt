use Rattle.std.proofs.Common.{◌≡◌, ℕ, vec_len}
use Rattle.unification.specs.PrivateOrder.{mark_at}
use Rattle.unification.specs.declared.ordering.Mark.TheVariants.{New}
use Rattle.unification.proofs.ordering.unmarked.Given as goal

abbrev pub invariant-loop : goal.invariant-loop
invariant-loop l = record {
  long : vec_len l.marks ≡ l.counter;
  fresh : (k : ℕ) → mark_at l.marks.items k ≡ New;
}
