use Rattle.std.proofs.Common.{◌≡◌, false, take}
use Rattle.std.specs.List.{list_any}
use Rattle.case_proofs.specs.PrivateWays.{contradicts}
use Rattle.case_proofs.proofs.ends.first_contradicted.Given as goal

abbrev pub invariant-loop-i : goal.invariant-loop-i
invariant-loop-i l = list_any (contradicts l.hyps) (take l.i l.hyps) ≡ false
