-- A rule that was made is put at a leaf.
use Rattle.std.proofs.Common.{◌≡◌, ◌∙◌, sym, subst, refl, inl, inr, ℕ, ◌<◌, ◌≤◌, List, arith}
use Rattle.std.specs.Prelude.{Some, None, Ok}
use Rattle.rule_table.specs.declared.Rule.{Rule}
use Rattle.rule_making.specs.Make.{FitsAt}
use Rattle.sequent_core.specs.declared.Sequent.{Sequent}
use Rattle.sequent_core.specs.declared.Tree.{Tree}
use Rattle.sequent_core.specs.Trees.{node_count}
use Rattle.proof_steps.specs.Places.{AppliesTo, HasLeaf, leaf_at, grown}
use Rattle.core_steps.specs.declared.events.Reply.TheVariants.{TreeFull}
use Rattle.core_steps.specs.State.{State}
use Rattle.core_steps.specs.Outcomes.{StepOutcome, told}
use Rattle.core_steps.specs.Proving.{Keeps, Puts}

-- a rule that fits at a sequent applies to it
fits_applies : (r : Rule) (s : Sequent) → FitsAt r s → AppliesTo r s
fits_applies r s fits = record { rule = fits.rule; meets = fits.meets; fresh = fits.fresh }

module _ (path : List ℕ) (tree : Tree) (sequent : Sequent) (r : Rule) (has : HasLeaf path tree sequent (FitsAt r)) where
  -- the leaf is there
  pub never_leafless : leaf_at path tree sequent ≡ None → ⊥
  never_leafless none = let no : Some has.0 ≡ None = sym has.1 ∙ none in cc

  -- the rule fits at it
  pub never_unfit : HasLeaf path tree sequent (λ s. AppliesTo r s → ⊥) → ⊥
  never_unfit not =
      let both : Some has.0 ≡ Some not.0 = sym has.1 ∙ not.1 in
      let same : has.0 ≡ not.0 = cc in
      not.2 (subst (AppliesTo r) same (fits_applies r has.0 has.2))

module _ (s : State) (name : List ℕ) (sequent : Sequent) (tree : Tree) (path : List ℕ) (r : Rule) where
  pub puts_grown : (x : StepOutcome) → node_count (grown r path tree) ≤ 2048 → Keeps s name sequent (grown r path tree) x → Puts s name sequent tree path (Ok r) x
  puts_grown x small keeps = inr ((λ large. absurd (omega (arith, small, large))), keeps)

  pub puts_full : 2048 < node_count (grown r path tree) → Puts s name sequent tree path (Ok r) (told s TreeFull)
  puts_full large = inl (large, refl)
