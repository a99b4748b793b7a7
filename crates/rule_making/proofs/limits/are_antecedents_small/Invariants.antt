use Rattle.std.proofs.Common.{take}
use Rattle.std.specs.List.{AllByRecursion}
use Rattle.rule_making.specs.Private.{IsSmallAntecedent}
use Rattle.rule_making.proofs.limits.are_antecedents_small.Given as goal

abbrev pub invariant-loop-antecedent : goal.invariant-loop-antecedent
invariant-loop-antecedent l = AllByRecursion IsSmallAntecedent (take l.antecedent-index l.antecedents)
