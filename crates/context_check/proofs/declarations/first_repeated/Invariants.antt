use Rattle.std.proofs.Common.{◌≡◌, ℕ, List, [], ◌||◌, map, take}
use Rattle.model_core.specs.Each.{at_each, is_among}
use Rattle.model_core.specs.Faults.{first_by_place}
use Rattle.context_check.specs.Texts.{mark_of, repeated_row}
use Rattle.model_core.specs.Borrowed.{has}
use Rattle.context_check.proofs.Repeated.{texts_of}
use Rattle.context_check.proofs.declarations.first_repeated.Given as goal

abbrev pub invariant-loop-mark : goal.invariant-loop-mark
invariant-loop-mark l = record {
  seen : (x : List ℕ) → has l.seen x ≡ (has l.fn.seen x || is_among (texts_of (take l.mark-index l.marks)) x);
  first : l.first ≡ first_by_place (at_each (λ b x. repeated_row l.kind l.component (λ y. has l.known y || has l.fn.seen y) (map mark_of b) (mark_of x)) [] (take l.mark-index l.marks));
}
