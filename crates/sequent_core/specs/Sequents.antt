-- Sequents: their formulas are predicates that are typed in their environment.
use Rattle.std.specs.List.{AllByRecursion}
use Rattle.formula_core.specs.Typed.{IsPredicateIn, IsGoodEnv}
use Rattle.sequent_core.specs.declared.sequent.Sequent.{Sequent}

-- the hypotheses and the goal are predicates typed in the environment
pub record IsSequent (s : Sequent) : Type 0 where
  pub env : IsGoodEnv s.env
  pub hyps : AllByRecursion (IsPredicateIn s.env) s.hyps
  pub goal : IsPredicateIn s.env s.goal
