use Rattle.std.proofs.Common.{take}
use Rattle.std.specs.List.{AllByRecursion}
use Rattle.rule_kernel.specs.Private.{AddsSmallTypes}
use Rattle.rule_kernel.proofs.sound.add_small_types.Given as goal

abbrev pub invariant-loop-antecedent : goal.invariant-loop-antecedent
invariant-loop-antecedent l = AllByRecursion AddsSmallTypes (take l.antecedent-index l.antecedents)
