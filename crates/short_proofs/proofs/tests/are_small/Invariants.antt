use Rattle.std.proofs.Common.{take}
use Rattle.std.specs.List.{AllByRecursion}
use Rattle.formula_core.specs.Sizes.{IsWithinLimits}
use Rattle.short_proofs.proofs.tests.are_small.Given as goal

abbrev pub invariant-loop-formula : goal.invariant-loop-formula
invariant-loop-formula l = AllByRecursion IsWithinLimits (take l.formula-index l.formulas)
