-- The sequents that the prover by hypotheses is sure to prove.
use Rattle.std.specs.Prelude.{Contains}
use Rattle.formula_core.specs.Sizes.{IsWithinLimits}
use Rattle.sequent_core.specs.declared.sequent.Sequent.{Sequent}

-- the goal is a hypothesis, and within the limits of a rule's formulas
abbrev pub IsAssumed : Sequent → Type 0
IsAssumed s = Contains s.hyps s.goal × IsWithinLimits s.goal
