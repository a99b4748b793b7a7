-- What may be built, and in how many steps.
use Rattle.std.proofs.Common.{◌≡◌, ◌∙◌, sym, ap, subst, ℕ, arith}
use Rattle.std.specs.FinMap.{entries}
use Rattle.build_core.specs.Projects.{Project, IsBuildableList}
use Rattle.build_core.specs.Moved.{HasFewSteps}
use Rattle.core_steps.specs.Durable.{ProjectMap, IsSmallProject}
use Rattle.core_steps.specs.State.{State}

-- a copy of a small project may be built
pub buildable : (project copy : ProjectMap) (es : Project) → IsSmallProject project → copy ≡ project → entries copy ≡ es → IsBuildableList es
buildable project copy es small is listed = subst IsBuildableList (sym (ap entries is) ∙ listed) small.1

-- the steps of a build are few beside the built texts and the present ones
pub few_steps : (s : State) (before new : Project) (a b : ℕ) → before ≡ entries s.durable.built → new ≡ entries s.durable.texts → HasFewSteps before new a b →
    HasFewSteps (entries s.durable.built) (entries s.durable.texts) a b
few_steps s before new a b built texts few =
    subst (λ p. HasFewSteps p (entries s.durable.texts) a b) built (subst (λ p. HasFewSteps before p a b) texts few)
