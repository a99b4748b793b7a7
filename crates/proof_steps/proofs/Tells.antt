-- What is told of a rule that is tried.
use Rattle.std.proofs.Common.{◌≡◌, sym, subst, refl, ℕ, List, Option, Some, None}
use Rattle.std.specs.Prelude.{Result, Ok, Err, ⊤}
use Rattle.rule_table.specs.declared.rule.Rule.{Rule}
use Rattle.sequent_core.specs.declared.sequent.Sequent.{Sequent}
use Rattle.sequent_core.specs.declared.tree.Tree.{Tree}
use Rattle.proof_tree.specs.declared.way.Way.TheVariants.{Root}
use Rattle.proof_tree.specs.Ways.{antecedents_of}
use Rattle.sequent_core.specs.Trees.{at_end}
use Rattle.proof_tree.proofs.WayEnds.{root_end}
use Rattle.proof_steps.specs.declared.steps.StepFault.{StepFault}
use Rattle.proof_steps.specs.declared.steps.StepFault.TheVariants.{NoFit}
use Rattle.proof_steps.specs.Places.{AppliesTo, leaf_at}
use Rattle.proof_steps.specs.Private.{TellsFit}

-- at the root
pub told_at : (t : Tree) (items path : List ℕ) (s : Sequent) (r : Rule) (told : Result ⊤ StepFault) → items ≡ path
    → TellsFit (leaf_at items t (at_end (antecedents_of Root) s)) r told → TellsFit (leaf_at path t s) r told
told_at t items path s r told e h = subst (λ p. TellsFit (leaf_at p t s) r told) e (subst (λ w. TellsFit (leaf_at items t w) r told) (root_end s) h)

module _ (r : Rule) where
  pub told_fit : (o : Option Sequent) (done : ⊤) → TellsFit o r (Ok done) → (at : Sequent) × (o ≡ Some at) × AppliesTo r at
  told_fit None done t = cc
  told_fit (Some at) done t = (at, refl, t)

  other_fit : (o : Option Sequent) → TellsFit o r (Err NoFit) → (at : Sequent) × (o ≡ Some at) × (AppliesTo r at → ⊥)
  other_fit None t = cc
  other_fit (Some at) t = (at, refl, t)

  pub told_no_fit : (o : Option Sequent) (fault : StepFault) → fault ≡ NoFit → TellsFit o r (Err fault) → (at : Sequent) × (o ≡ Some at) × (AppliesTo r at → ⊥)
  told_no_fit o fault e t = other_fit o (subst (λ f. TellsFit o r (Err f)) e t)
