use Rattle.std.proofs.Common.{◌≡◌, [], take}
use Rattle.std.specs.List.{AllByRecursion}
use Rattle.case_proofs.specs.PrivateWays.{ways}
use Rattle.case_proofs.proofs.standing.first_compound.Given as goal

abbrev pub invariant-loop-i : goal.invariant-loop-i
invariant-loop-i l = AllByRecursion (λ x. ways x ≡ []) (take l.i l.hyps)
