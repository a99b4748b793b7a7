use Rattle.type_formula.proofs.Entries.{copies-push}
use Rattle.type_formula.proofs.terms.copies.Goals as goal

pub loop-k-preserved : goal.loop-k-preserved
loop-k-preserved c = copies-push _ _ _ _ _ c.in_ok-push.ensures.items c.loop-k.invariant c.in_ok-copy-2.ensures
