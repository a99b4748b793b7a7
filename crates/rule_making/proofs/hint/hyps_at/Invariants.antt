use Rattle.std.proofs.Common.{◌≡◌, take}
use Rattle.rule_making.specs.Make.{hyps_at}
use Rattle.rule_making.proofs.hint.hyps_at.Given as goal

abbrev pub invariant-loop-number : goal.invariant-loop-number
invariant-loop-number l = l.hyps.items ≡ hyps_at l.sequent (take l.number-index l.numbers)
