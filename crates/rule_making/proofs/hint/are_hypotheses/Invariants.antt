use Rattle.std.proofs.Common.{◌≡◌, drop, is_some}
use Rattle.std.specs.List.{list_all}
use Rattle.rule_making.specs.Make.{hypothesis}
use Rattle.rule_making.proofs.hint.are_hypotheses.Given as goal

abbrev pub invariant-loop-number : goal.invariant-loop-number
invariant-loop-number l = list_all (λ i. is_some (hypothesis l.sequent i)) l.numbers ≡ list_all (λ i. is_some (hypothesis l.sequent i)) (drop l.number-index l.numbers)
