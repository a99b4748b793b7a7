use Rattle.std.proofs.Common.{take}
use Rattle.std.specs.List.{AllByRecursion}
use Rattle.case_proofs.specs.Cases.{IsHalfSize}
use Rattle.case_proofs.proofs.sizes.are_half_size.Given as goal

abbrev pub invariant-loop-formula : goal.invariant-loop-formula
invariant-loop-formula l = AllByRecursion IsHalfSize (take l.formula-index l.formulas)
