use Rattle.std.proofs.Common.{take}
use Rattle.std.specs.Prelude.{Contains}
use Rattle.std.specs.List.{AllByRecursion}
use Rattle.proof_tree.specs.Ways.{antecedents_of}
use Rattle.sequent_core.specs.Trees.{at_end}
use Rattle.proof_tree.proofs.way.Way.has_hypotheses.Given as goal

abbrev pub invariant-loop-formula : goal.invariant-loop-formula
invariant-loop-formula l = AllByRecursion (Contains (at_end (antecedents_of l.self) l.sequent).hyps) (take l.formula-index l.wanted)
