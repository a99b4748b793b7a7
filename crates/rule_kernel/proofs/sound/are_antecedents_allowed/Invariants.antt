use Rattle.std.proofs.Common.{take}
use Rattle.std.specs.List.{AllByRecursion}
use Rattle.rule_kernel.specs.Private.{IsAllowedAntecedent}
use Rattle.rule_kernel.proofs.sound.are_antecedents_allowed.Given as goal

abbrev pub invariant-loop-antecedent : goal.invariant-loop-antecedent
invariant-loop-antecedent l = AllByRecursion IsAllowedAntecedent (take l.antecedent-index l.antecedents)
