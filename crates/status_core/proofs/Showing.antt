-- What is shown of an obligation.
use Rattle.std.proofs.Common.{◌≡◌, ◌⊎◌, inl, inr, refl, sym, subst, ℕ, List}
use Rattle.std.specs.Prelude.{Option, Some, None, Result, Ok, Err, IfOk, MatchOption}
use Rattle.std.specs.FinMap.{get}
use Rattle.formula_core.specs.declared.memory.OutOfMemory.{OutOfMemory}
use Rattle.sequent_core.specs.declared.Sequent.{Sequent}
use Rattle.sequent_core.specs.declared.Tree.{Tree}
use Rattle.sequent_core.specs.Trees.{Applies}
use Rattle.sequent_core.proofs.Nodes.{leaf_applies}
use Rattle.proof_steps.specs.Places.{leaf_at}
use Rattle.proof_entries.specs.declared.Proof.{Proof}
use Rattle.core_steps.specs.declared.events.Status.{Status}
use Rattle.core_steps.specs.declared.events.Status.TheVariants.{Unattempted, Pending, Reviewed, Discharged, Broken}
use Rattle.core_steps.specs.declared.events.Reply.TheVariants.{NoLeaf, Shown}
use Rattle.core_steps.specs.State.{State}
use Rattle.core_steps.specs.Status.{IsStatus, IsTreeStatus}
use Rattle.core_steps.specs.Outcomes.{told}
use Rattle.core_steps.specs.Proving.{ShowsOne, ShowsAt, stored_tree, tree_in}
use Rattle.status_core.specs.PrivateParts.{IsShownAt}

-- a tree of known status applies or doesn't
tree_applies : (tree : Tree) (s : Sequent) (status : Status) → IsTreeStatus tree s status → Applies tree s ⊎ (Applies tree s → ⊥)
tree_applies tree s Unattempted is = inl (subst (λ t. Applies t s) (sym is) (leaf_applies s))
tree_applies tree s Pending is = inl is.1
tree_applies tree s Reviewed is = inl is.1
tree_applies tree s Discharged is = inl is.applies
tree_applies tree s Broken is = inr is.1

applies_or_not : (proof : Option Proof) (s : Sequent) (status : Status) → IsStatus proof s status → Applies (tree_in proof) s ⊎ (Applies (tree_in proof) s → ⊥)
applies_or_not None s status is = inl (leaf_applies s)
applies_or_not (Some proof) s status is = tree_applies proof.tree s status is

-- the sequent at the leaf of a path is the one that is shown, where the tree applies
pub shown_leaf : (tree : Tree) (s : Sequent) (path : List ℕ) (found : Result (Option Sequent) OutOfMemory) → Applies tree s →
    IfOk found (λ leaf. leaf ≡ leaf_at path tree s) → IfOk found (λ shown. IsShownAt tree s (Some path) shown)
shown_leaf tree s path (Ok leaf) applies there = ((λ a. there), (λ no. absurd (no applies)))
shown_leaf tree s path (Err e) applies there = tt

-- none is shown where it doesn't
pub shown_none : (tree : Tree) (s : Sequent) (path : List ℕ) → (Applies tree s → ⊥) → IsShownAt tree s (Some path) None
shown_none tree s path fails = ((λ a. absurd (fails a)), (λ n. refl))

module _ (s : State) (name : List ℕ) (sequent : Sequent) (status : Status) (is : IsStatus (get s.durable.proofs name) sequent status) where
  -- no sequent is shown where the tree doesn't apply, or has no leaf at the path
  pub shows_none : (path : Option (List ℕ)) → IsShownAt (stored_tree s.durable.proofs name) sequent path None → ShowsAt s name path sequent (told s NoLeaf)
  shows_none None shown = absurd (let none : Option Sequent = None in let no : none ≡ Some sequent = shown in cc)
  shows_none (Some path) shown = by (applies_or_not (get s.durable.proofs name) sequent status is) where
    by : Applies (stored_tree s.durable.proofs name) sequent ⊎ (Applies (stored_tree s.durable.proofs name) sequent → ⊥) → ShowsAt s name (Some path) sequent (told s NoLeaf)
    by (inl a) = inr (a, subst (λ (o : Option Sequent). MatchOption o (told s NoLeaf ≡ told s NoLeaf) (λ leaf. ShowsOne s name sequent leaf (told s NoLeaf))) (shown.0 a) refl)
    by (inr n) = inl (n, refl)

  -- a sequent is shown with the status
  pub shows_some : (path : Option (List ℕ)) (leaf : Sequent) → IsShownAt (stored_tree s.durable.proofs name) sequent path (Some leaf) →
      ShowsAt s name path sequent (told s (Shown name status leaf))
  shows_some None leaf shown = let same : leaf ≡ sequent = cc in subst (λ q. ShowsOne s name sequent sequent (told s (Shown name status q))) (sym same) (status, is, refl)
  shows_some (Some path) leaf shown = by (applies_or_not (get s.durable.proofs name) sequent status is) where
    by : Applies (stored_tree s.durable.proofs name) sequent ⊎ (Applies (stored_tree s.durable.proofs name) sequent → ⊥) → ShowsAt s name (Some path) sequent (told s (Shown name status leaf))
    by (inl a) = inr (a, subst (λ (o : Option Sequent). MatchOption o (told s (Shown name status leaf) ≡ told s NoLeaf) (λ q. ShowsOne s name sequent q (told s (Shown name status leaf)))) (shown.0 a) (status, is, refl))
    by (inr n) = let no = shown.1 n in cc
