-- What a change at a place of a tree keeps.
use Rattle.std.proofs.Common.{◌≡◌, ◌∙◌, sym, ap, subst, refl, ℕ, zero, suc, List, [], ◌∷◌, map, length, Some, slice_get, get_or, ◌<◌, ◌≤◌, arith}
use Rattle.std.specs.Prelude.{slice_set}
use Rattle.std.specs.List.{AllByRecursion}
use Rattle.rule_table.specs.declared.rule.Antecedent.{Antecedent}
use Rattle.rule_table.specs.declared.rule.Rule.{Rule}
use Rattle.sequent_core.specs.declared.sequent.Sequent.{Sequent}
use Rattle.sequent_core.specs.declared.tree.Tree.{Tree, out-Tree}
use Rattle.sequent_core.specs.declared.tree.Tree.TheOpen.{Tree-F, Leaf as LeafF, Node as NodeF}
use Rattle.sequent_core.specs.declared.tree.Tree.TheVariants.{Leaf}
use Rattle.sequent_core.specs.PrivateChildren.{EachApplies}
use Rattle.sequent_core.specs.Trees.{extended, IsFresh, Applies}
use Rattle.sequent_core.proofs.Nodes.{leaf_applies, node_applies, applied_rule}
use Rattle.proof_steps.specs.Places.{rule_and_children_at, node_of, if_leaf, child_of, leaf_at, change_at, with_child, put, with_leaves, grown, AppliesTo}
use Rattle.proof_steps.proofs.Nodes.{node_is, leaf_is}
use Rattle.proof_steps.proofs.Descent.{child_is, leaf_below}

-- one child is changed
each_change : (trees : List Tree) (ants : List Antecedent) (s : Sequent) (i : ℕ) (change : Tree → Tree) → EachApplies trees ants s
    → ((a : Antecedent) (child : Tree) → slice_get ants i ≡ Some a → slice_get trees i ≡ Some child → Applies child (extended s a) → Applies (change child) (extended s a))
    → EachApplies (change_at i change trees) ants s
each_change [] ants s i change e keep = e
each_change (t ∷ trees) [] s i change e keep = absurd e
each_change (t ∷ trees) (a ∷ ants) s zero change e keep = (e.0, keep a t refl refl e.1, e.2)
each_change (t ∷ trees) (a ∷ ants) s (suc i) change e keep = (e.0, e.1, each_change trees ants s i change e.2 keep)

-- a part that applies wherever the old one did keeps the whole tree applying
module _ (part : Tree) (i : ℕ) (path : List ℕ) (t : Tree) (s : Sequent) (applied : Applies t s)
    (keep : (a : Antecedent) (child : Tree) → child_of i t ≡ Some (a, child) → Applies child (extended s a) → Applies (put path part child) (extended s a)) where
  put_in : (x : Tree-F Tree) → out-Tree t ≡ x → Applies (with_child i (put path part) x) s
  put_in LeafF e = leaf_applies s
  put_in (NodeF r trees) e =
      let node : node_of t ≡ Some (r, trees) = ap rule_and_children_at e in
      let parts = applied_rule r trees s (subst (λ x. Applies x s) (node_is t (r, trees) node) applied) in
      node_applies r (change_at i (put path part) trees) s parts.0 parts.1
      (each_change trees r.antecedents s i (put path part) parts.2 (λ a child f g applies. keep a child (child_is t r trees i a child node f g) applies))

put_applies : (part : Tree) (path : List ℕ) (t : Tree) (s : Sequent) → Applies t s
    → ((u : Tree) (w : Sequent) → leaf_at path t s ≡ if_leaf u w → Applies part w)
    → Applies (put path part t) s
put_applies part [] t s applied new = new t s refl
put_applies part (i ∷ path) t s applied new =
    put_in part i path t s applied
    (λ a child found applies. put_applies part path child (extended s a) applies (λ u w there. new u w (leaf_below t i path s a child found ∙ there)))
    (out-Tree t) refl

-- a leaf applies anywhere, so a tree with a leaf put into it still applies
pub prune_applies : (path : List ℕ) (t : Tree) (s : Sequent) → Applies t s → Applies (put path Leaf t) s
prune_applies path t s applied = put_applies Leaf path t s applied (λ u w there. leaf_applies w)

-- a new leaf for each antecedent
each_leaf : (ants : List Antecedent) (s : Sequent) → AllByRecursion (IsFresh s) ants → EachApplies (map (λ a. Leaf) ants) ants s
each_leaf [] s f = tt
each_leaf (a ∷ ants) s f = (f.0, leaf_applies (extended s a), each_leaf ants s f.1)

-- the rule applies at the leaf, so the tree with it applies
pub grown_applies : (r : Rule) (path : List ℕ) (t : Tree) (s at : Sequent)
    → Applies t s → leaf_at path t s ≡ Some at → AppliesTo r at → Applies (grown r path t) s
grown_applies r path t s at applied l f =
    put_applies (with_leaves r) path t s applied
    (λ u w there. subst (Applies (with_leaves r)) (sym (leaf_is u w at (sym there ∙ l)).1)
    (node_applies r (map (λ a. Leaf) r.antecedents) at f.rule f.meets (each_leaf r.antecedents at f.fresh)))

-- one child changed in place
changed_in : (trees : List Tree) (i : ℕ) (change : Tree → Tree) (d : Tree) → i < length trees → slice_set trees i (change (get_or trees i d)) ≡ change_at i change trees
changed_in [] i change d lt = refl
changed_in (t ∷ trees) zero change d lt = refl
changed_in (t ∷ trees) (suc i) change d lt = ap (λ ts. t ∷ ts) (changed_in trees i change d (omega (arith, lt)))

pub changed_past : (trees : List Tree) (i : ℕ) (change : Tree → Tree) → length trees ≤ i → change_at i change trees ≡ trees
changed_past [] i change le = refl
changed_past (t ∷ trees) zero change le = let never : ⊥ = omega (arith, le) in absurd never
changed_past (t ∷ trees) (suc i) change le = ap (λ ts. t ∷ ts) (changed_past trees i change (omega (arith, le)))

pub changed_at : (trees items : List Tree) (i : ℕ) (change : Tree → Tree) (old new : Tree) (after : List Tree) → items ≡ trees
    → old ≡ get_or items i old → new ≡ change old → after ≡ slice_set items i new → i < length trees → after ≡ change_at i change trees
changed_at trees items i change old new after e o n a lt =
    a ∙ (λ j. slice_set (e j) i (n j)) ∙ ap (λ x. slice_set trees i (change x)) (o ∙ ap (λ ts. get_or ts i old) e) ∙ changed_in trees i change old lt
