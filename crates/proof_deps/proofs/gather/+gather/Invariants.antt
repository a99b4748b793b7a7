use Rattle.std.proofs.Common.{take}
use Rattle.sequent_core.specs.PrivateChildren.{EachApplies}
use Rattle.proof_deps.specs.Private.{antecedents_on, Narrows}
use Rattle.proof_deps.proofs.gather.+gather.Given as goal

abbrev pub invariant-gather_each-loop-i : goal.invariant-gather_each-loop-i
invariant-gather_each-loop-i l = Narrows (antecedents_on l.way) (EachApplies (take l.i l.trees) (take l.i l.antecedents)) l.initial.found l.found
