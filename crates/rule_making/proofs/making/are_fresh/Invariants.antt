use Rattle.std.proofs.Common.{take}
use Rattle.std.specs.List.{AllByRecursion}
use Rattle.sequent_core.specs.Trees.{IsFresh}
use Rattle.rule_making.proofs.making.are_fresh.Given as goal

abbrev pub invariant-loop-antecedent : goal.invariant-loop-antecedent
invariant-loop-antecedent l = AllByRecursion (IsFresh l.sequent) (take l.antecedent-index l.antecedents)
