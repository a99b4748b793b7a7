use Rattle.std.proofs.Common.{take}
use Rattle.std.specs.List.{AllByRecursion}
use Rattle.sequent_core.specs.Trees.{IsFresh, at_end}
use Rattle.proof_tree.specs.Ways.{antecedents_of}
use Rattle.proof_steps.proofs.ends.are_fresh.Given as goal

abbrev pub invariant-loop-antecedent : goal.invariant-loop-antecedent
invariant-loop-antecedent l = AllByRecursion (IsFresh (at_end (antecedents_of l.way) l.sequent)) (take l.antecedent-index l.antecedents)
