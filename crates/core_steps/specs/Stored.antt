-- What is known of a stored tree.
use Rattle.std.specs.Prelude.{◌≡◌, ◌≢◌, ◌↔◌, Option, Some, None, true, false}
use Rattle.sequent_core.specs.declared.Sequent.{Sequent}
use Rattle.sequent_core.specs.declared.Tree.{Tree}
use Rattle.sequent_core.specs.declared.Tree.TheVariants.{Leaf}
use Rattle.sequent_core.specs.Trees.{Applies, is_closed, is_reviewed}
use Rattle.sequent_core.specs.Sequents.{IsSequent}
use Rattle.proof_deps.specs.declared.Deps.{Deps}
use Rattle.proof_deps.specs.Deps.{FitsIn}
use Rattle.core_steps.specs.declared.events.Status.{Status}
use Rattle.core_steps.specs.declared.events.Status.TheVariants.{Unattempted, Pending, Reviewed, Discharged, Broken}
use Rattle.core_steps.specs.declared.stored.Facts.{Facts}

-- the sequents that have what is asked
abbrev pub FitsSome : Option Deps → Sequent → Type 0
FitsSome None s = ⊥
FitsSome (Some deps) s = FitsIn deps s

-- the status of a tree wherever it applies
abbrev pub IsSettledAs : Tree → Status → Type 0
IsSettledAs tree Unattempted = tree ≡ Leaf
IsSettledAs tree Pending = (tree ≢ Leaf) × (is_closed tree ≡ false)
IsSettledAs tree Reviewed = (tree ≢ Leaf) × (is_closed tree ≡ true) × (is_reviewed tree ≡ true)
IsSettledAs tree Discharged = (tree ≢ Leaf) × (is_closed tree ≡ true) × (is_reviewed tree ≡ false)
IsSettledAs tree Broken = ⊥

-- the tree applies to just the sequents that its dependencies fit, and has this status there
pub record AreFactsOf (tree : Tree) (facts : Facts) : Type 0 where
  pub deps : (s : Sequent) → IsSequent s → FitsSome facts.deps s ↔ Applies tree s
  pub settled : IsSettledAs tree facts.settled
