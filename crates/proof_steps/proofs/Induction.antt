-- Induction over trees.
use Rattle.std.proofs.Common.{sym, subst, List, [], ◌∷◌, map}
use Rattle.std.specs.List.{AllByRecursion}
use Rattle.rule_table.specs.declared.rule.Rule.{Rule}
use Rattle.sequent_core.specs.declared.tree.Tree.{Tree}
use Rattle.sequent_core.specs.declared.tree.Tree.TheOpen.{Tree-F, Leaf as LeafF, Node as NodeF}
use Rattle.sequent_core.specs.declared.tree.Tree.TheVariants.{Leaf, Node}
use Rattle.sequent_core.specs.declared.tree.Tree.TheViews.{roll-Tree, rolls-Leaf, rolls-Node}
use Rattle.sequent_core.specs.declared.tree.Tree.TheFolds.{map-Tree, ind-Tree}

module _ (P : Tree → Type 0) (leaf : P Leaf) (node : (r : Rule) (trees : List Tree) → AllByRecursion P trees → P (Node r trees)) where
  abbrev Proved : Type 0
  Proved = (t : Tree) × P t

  each : (es : List Proved) → AllByRecursion P (map (λ e. e.0) es)
  each [] = tt
  each (e ∷ es) = (e.1, each es)

  step : (y : Tree-F Proved) → P (roll-Tree (map-Tree Proved Tree (λ e. e.0) y))
  step LeafF = subst P (sym rolls-Leaf) leaf
  step (NodeF r trees) = subst P (sym (rolls-Node r (map (λ e. e.0) trees))) (node r (map (λ e. e.0) trees) (each trees))

  -- a fact of every tree, from a proof for leaves and one for nodes
  pub tree_induction : (t : Tree) → P t
  tree_induction = ind-Tree P (λ x y is. let Q : Tree-F Tree → Type 0 = λ z. P (roll-Tree z) in subst Q is (step y))
