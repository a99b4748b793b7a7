use Rattle.std.proofs.Common.{◌≡◌, take}
use Rattle.std.specs.List.{AllByRecursion}
use Rattle.formula_core.specs.declared.Ty.TheVariants.{Truth}
use Rattle.formula_core.specs.Wellness.{type_of}
use Rattle.rule_kernel.proofs.sound.are_predicates.Given as goal

abbrev pub invariant-loop-formula : goal.invariant-loop-formula
invariant-loop-formula l = AllByRecursion (λ f. type_of f ≡ Truth) (take l.formula-index l.formulas)
