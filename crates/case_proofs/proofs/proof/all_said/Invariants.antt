use Rattle.std.proofs.Common.{◌≡◌, true, map, take}
use Rattle.case_proofs.specs.PrivateWays.{signed}
use Rattle.case_proofs.proofs.proof.all_said.Given as goal

abbrev pub invariant-loop-hyp : goal.invariant-loop-hyp
invariant-loop-hyp l = l.out.items ≡ map (λ h. signed h true) (take l.hyp-index l.sequent.hyps)
