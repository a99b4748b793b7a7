use Rattle.std.proofs.Common.{take}
use Rattle.std.specs.List.{AllByRecursion}
use Rattle.rule_table.specs.Rules.{IsAllowed}
use Rattle.rule_kernel.proofs.sound.are_allowed.Given as goal

abbrev pub invariant-loop-formula : goal.invariant-loop-formula
invariant-loop-formula l = AllByRecursion IsAllowed (take l.formula-index l.formulas)
