use Rattle.std.proofs.Common.{take}
use Rattle.sequent_core.specs.PrivateChildren.{EachApplies}
use Rattle.proof_tree.specs.Ways.{antecedents_of}
use Rattle.sequent_core.specs.Trees.{at_end}
use Rattle.proof_tree.proofs.applying.+applies.Given as goal

abbrev pub invariant-each_applies-loop-i : goal.invariant-each_applies-loop-i
invariant-each_applies-loop-i l = EachApplies (take l.i l.trees) (take l.i l.antecedents) (at_end (antecedents_of l.way) l.sequent)
