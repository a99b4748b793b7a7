use Rattle.event_values.proofs.Insertion.{IsPassed}
use Rattle.event_values.proofs.lists.place_of.Given as goal

abbrev pub invariant-loop-i : goal.invariant-loop-i
invariant-loop-i l = IsPassed l.v l.set l.i
