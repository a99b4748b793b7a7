use Rattle.std.proofs.Common.{◌≡◌, false, take}
use Rattle.std.specs.List.{list_any}
use Rattle.short_proofs.specs.Sure.{as_comparison, follows_from}
use Rattle.short_proofs.proofs.arithmetic.from_any.Given as goal

abbrev pub invariant-loop-hyp : goal.invariant-loop-hyp
invariant-loop-hyp l = list_any (λ h. follows_from (as_comparison l.sequent.goal) (as_comparison h)) (take l.hyp-index l.hyps) ≡ false
