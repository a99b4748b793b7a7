-- The root of a tree.
use Rattle.std.proofs.Common.{◌≡◌, ◌∙◌, sym, ap, refl, List, Some, None}
use Rattle.rule_table.specs.declared.rule.Rule.{Rule}
use Rattle.sequent_core.specs.declared.tree.Tree.{Tree, out-Tree, roll-Tree}
use Rattle.sequent_core.specs.declared.tree.Tree.TheOpen.{Tree-F, Leaf as LeafF, Node as NodeF}
use Rattle.sequent_core.specs.declared.tree.Tree.TheVariants.{Leaf, Node}
use Rattle.sequent_core.specs.declared.tree.Tree.TheViews.{roll-out-Tree, rolls-Leaf, rolls-Node, outs-Leaf, outs-Node}
use Rattle.proof_steps.specs.Places.{rule_and_children_at, node_of, if_leaf_at, if_leaf}

pub node_of-Leaf : node_of Leaf ≡ None
node_of-Leaf = ap rule_and_children_at outs-Leaf

pub node_of-Node : (r : Rule) (trees : List Tree) → node_of (Node r trees) ≡ Some (r, trees)
node_of-Node r trees = ap rule_and_children_at (outs-Node r trees)

-- a tree with a node at its root
node_in : (x : Tree-F Tree) (n : Rule × List Tree) → rule_and_children_at x ≡ Some n → roll-Tree x ≡ Node n.0 n.1
node_in LeafF n e = cc
node_in (NodeF r trees) n e = let same : (r, trees) ≡ n = cc in rolls-Node r trees ∙ ap (λ m. Node m.0 m.1) same

pub node_is : (t : Tree) (n : Rule × List Tree) → node_of t ≡ Some n → t ≡ Node n.0 n.1
node_is t n e = sym (roll-out-Tree t) ∙ node_in (out-Tree t) n e

pub if_leaf-Leaf : {X : Type 0} (x : X) → if_leaf Leaf x ≡ Some x
if_leaf-Leaf x = ap (λ t. if_leaf_at t x) outs-Leaf

leaf_in : {X : Type 0} (t : Tree-F Tree) (x y : X) → if_leaf_at t x ≡ Some y → (roll-Tree t ≡ Leaf) × (x ≡ y)
leaf_in LeafF x y e = (rolls-Leaf, cc)
leaf_in (NodeF r trees) x y e = cc

-- a tree that is a leaf
pub leaf_is : {X : Type 0} (t : Tree) (x y : X) → if_leaf t x ≡ Some y → (t ≡ Leaf) × (x ≡ y)
leaf_is t x y e = let at = leaf_in (out-Tree t) x y e in (sym (roll-out-Tree t) ∙ at.0, at.1)

none_in : {X : Type 0} (t : Tree-F Tree) (x : X) → (roll-Tree t ≡ Leaf → ⊥) → if_leaf_at t x ≡ None
none_in LeafF x other = absurd (other rolls-Leaf)
none_in (NodeF r trees) x other = refl

-- a tree that isn't
pub no_leaf : {X : Type 0} (t : Tree) (x : X) → (t ≡ Leaf → ⊥) → if_leaf t x ≡ None
no_leaf t x other = none_in (out-Tree t) x (λ e. other (sym (roll-out-Tree t) ∙ e))
