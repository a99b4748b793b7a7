use Rattle.std.proofs.Common.{◌≡◌, false, take}
use Rattle.case_proofs.specs.PrivateWays.{is_said}
use Rattle.case_proofs.proofs.standing.is_said.Given as goal

abbrev pub invariant-loop-x : goal.invariant-loop-x
invariant-loop-x l = is_said (take l.x-index l.all) l.sign l.f ≡ false
