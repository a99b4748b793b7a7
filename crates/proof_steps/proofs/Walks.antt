-- One level on the way to a leaf.
use Rattle.std.proofs.Common.{◌≡◌, ◌∙◌, sym, ap, subst, refl, ℕ, ◌-◌, ◌<◌, ◌≤◌, List, [], ◌∷◌, length, take, drop, get_or, Some, None, arith}
use Rattle.rule_table.specs.declared.rule.Antecedent.{Antecedent}
use Rattle.sequent_core.specs.declared.sequent.Sequent.{Sequent}
use Rattle.sequent_core.specs.declared.tree.Tree.{Tree}
use Rattle.sequent_core.specs.Trees.{Applies, at_end, AreFresh}
use Rattle.proof_steps.specs.Places.{if_leaf, child_of, leaf_at}
use Rattle.proof_steps.specs.Private.{HaveDistinctIdentifiers}
use Rattle.proof_steps.proofs.Descent.{child_applies, leaf_below, leaf_nowhere}
use Rattle.proof_steps.proofs.Rules.{first_of}

module _ (t : Tree) (path : List ℕ) (s : Sequent) where
  -- at the end of the path
  pub leaf_here : length path < 1 → leaf_at path t s ≡ if_leaf t s
  leaf_here lt = by path lt where
    by : (p : List ℕ) → length p < 1 → leaf_at p t s ≡ if_leaf t s
    by [] lt = refl
    by (x ∷ p) lt = let never : ⊥ = omega (arith, lt) in absurd never

  -- where no child stands
  pub no_child : 1 ≤ length path → child_of (get_or path 0 0) t ≡ None → leaf_at path t s ≡ None
  no_child le none = ap (λ p. leaf_at p t s) (first_of path le) ∙ leaf_nowhere t (get_or path 0 0) (take (length path - 1) (drop 1 path)) s none

-- below a child
module _ (t : Tree) (path : List ℕ) (s : Sequent) (way under : List Antecedent) (a : Antecedent) (child : Tree)
    (le : 1 ≤ length path) (found : child_of (get_or path 0 0) t ≡ Some (a, child)) (is : under ≡ a ∷ way) where
  pub below_leaf : leaf_at path t (at_end way s) ≡ leaf_at (take (length path - 1) (drop 1 path)) child (at_end under s)
  below_leaf =
      ap (λ p. leaf_at p t (at_end way s)) (first_of path le)
      ∙ leaf_below t (get_or path 0 0) (take (length path - 1) (drop 1 path)) (at_end way s) a child found
      ∙ ap (λ w. leaf_at (take (length path - 1) (drop 1 path)) child (at_end w s)) (sym is)

  pub below_fresh : AreFresh way s → Applies t (at_end way s) → AreFresh under s
  below_fresh fresh applied = subst (λ w. AreFresh w s) (sym is) ((child_applies (get_or path 0 0) t (a, child) (at_end way s) applied found).0, fresh)

  pub below_applies : Applies t (at_end way s) → Applies child (at_end under s)
  below_applies applied = subst (λ w. Applies child (at_end w s)) (sym is) (child_applies (get_or path 0 0) t (a, child) (at_end way s) applied found).1

  pub below_distinct : HaveDistinctIdentifiers way → Applies t (at_end way s) → HaveDistinctIdentifiers under
  below_distinct distinct applied = subst HaveDistinctIdentifiers (sym is) ((child_applies (get_or path 0 0) t (a, child) (at_end way s) applied found).2, distinct)
