use Rattle.std.proofs.Common.{take}
use Rattle.std.specs.List.{AllByRecursion}
use Rattle.formula_core.specs.Typed.{IsPredicateIn}
use Rattle.sequent_test.proofs.typed.are_predicates.Given as goal

abbrev pub invariant-loop-formula : goal.invariant-loop-formula
invariant-loop-formula l = AllByRecursion (IsPredicateIn l.env) (take l.formula-index l.formulas)
