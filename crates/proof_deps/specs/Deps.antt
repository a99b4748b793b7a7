-- What a proof tree asks of a sequent.
use Rattle.std.specs.Prelude.{◌≡◌, ◌↔◌, None, IfSome, Contains}
use Rattle.std.specs.List.{AllByRecursion}
use Rattle.formula_core.specs.Env.{type_in}
use Rattle.formula_core.specs.Typed.{Stands}
use Rattle.sequent_core.specs.declared.sequent.Sequent.{Sequent}
use Rattle.sequent_core.specs.declared.tree.Tree.{Tree}
use Rattle.sequent_core.specs.Trees.{Applies}
use Rattle.proof_deps.specs.declared.deps.Deps.{Deps}

-- the needed goal, if any, is the goal, the needed hypotheses are hypotheses, the used names stand in the environment
-- with their types, and none of the fresh names does
pub record FitsIn (d : Deps) (s : Sequent) : Type 0 where
  pub goal : IfSome d.goal (λ g. g ≡ s.goal)
  pub hyps : AllByRecursion (Contains s.hyps) d.hyps
  pub used : AllByRecursion (Stands s.env) d.used
  pub fresh : AllByRecursion (λ name. type_in s.env name ≡ None) d.fresh

-- the tree applies to exactly the sequents in which these fit
abbrev pub AreDepsOf : Tree → Deps → Type 0
AreDepsOf tree d = (s : Sequent) → Applies tree s ↔ FitsIn d s
