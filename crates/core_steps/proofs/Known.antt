-- What is known of a stored tree.
use Rattle.std.proofs.Common.{◌≡◌, ◌≢◌, ◌↔◌, refl, true, false}
use Rattle.std.specs.Prelude.{Option, Some, None, IfSome}
use Rattle.sequent_core.specs.declared.Sequent.{Sequent}
use Rattle.sequent_core.specs.declared.Tree.{Tree}
use Rattle.sequent_core.specs.Sequents.{IsSequent}
use Rattle.sequent_core.specs.Trees.{Applies}
use Rattle.proof_deps.specs.declared.Deps.{Deps}
use Rattle.proof_deps.specs.Deps.{AreDepsOf}
use Rattle.core_steps.specs.declared.events.Status.{Status}
use Rattle.core_steps.specs.declared.events.Status.TheVariants.{Unattempted, Pending, Reviewed, Discharged, Broken}
use Rattle.core_steps.specs.Status.{IsTreeStatus}
use Rattle.core_steps.specs.Stored.{FitsSome, IsSettledAs}

-- the tree applies to a sequent just where its dependencies fit
pub fits_some : (tree : Tree) (found : Option Deps) → IfSome found (AreDepsOf tree) → ((found ≡ None) ↔ ((s : Sequent) → IsSequent s → Applies tree s → ⊥)) →
    (s : Sequent) → IsSequent s → FitsSome found s ↔ Applies tree s
fits_some tree None are none s typed = ((λ cannot. absurd cannot), (λ applies. absurd (none.0 refl s typed applies)))
fits_some tree (Some deps) are none s typed = ((are s).1, (are s).0)

-- where the tree applies, the status is the settled one
pub settled_status : (tree : Tree) (s : Sequent) (status : Status) → IsSettledAs tree status → Applies tree s → IsTreeStatus tree s status
settled_status tree s Unattempted is applies = is
settled_status tree s Pending is applies = (is.0, applies, is.1)
settled_status tree s Reviewed is applies = (is.0, applies, is.1, is.2)
settled_status tree s Discharged is applies = record { applies = applies; closed = is.1; unreviewed = is.2 }
settled_status tree s Broken is applies = absurd is

-- where the tree doesn't apply, and isn't a bare leaf, the status is broken
pub broken_status : (tree : Tree) (s : Sequent) (status : Status) → IsSettledAs tree status → status ≢ Unattempted → (Applies tree s → ⊥) → IsTreeStatus tree s Broken
broken_status tree s Unattempted is apart cannot = absurd (apart refl)
broken_status tree s Pending is apart cannot = (is.0, cannot)
broken_status tree s Reviewed is apart cannot = (is.0, cannot)
broken_status tree s Discharged is apart cannot = (is.0, cannot)
broken_status tree s Broken is apart cannot = absurd is
