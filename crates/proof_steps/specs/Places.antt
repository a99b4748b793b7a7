-- Places in proof trees: the rule at a path, the sequent at a leaf, and a part put there.
use Rattle.std.specs.Prelude.{◌≡◌, ℕ, zero, suc, List, [], ◌∷◌, map, Option, Some, None, slice_get}
use Rattle.std.specs.Option.{option_map, option_and_then}
use Rattle.std.specs.List.{AllByRecursion}
use Rattle.rule_table.specs.declared.rule.Antecedent.{Antecedent}
use Rattle.rule_table.specs.declared.rule.Rule.{Rule}
use Rattle.rule_table.specs.Rules.{IsRule}
use Rattle.sequent_core.specs.declared.sequent.Sequent.{Sequent}
use Rattle.sequent_core.specs.declared.tree.Tree.{Tree, out-Tree}
use Rattle.sequent_core.specs.declared.tree.Tree.TheOpen.{Tree-F, Leaf, Node}
use Rattle.sequent_core.specs.declared.tree.Tree.TheVariants as tree
use Rattle.sequent_core.specs.Trees.{extended, Meets, IsFresh}

abbrev pub rule_and_children_at : Tree-F Tree → Option (Rule × List Tree)
rule_and_children_at Leaf = None
rule_and_children_at (Node r children) = Some (r, children)

-- the rule at the root with its children, where the root isn't a leaf
abbrev pub node_of : Tree → Option (Rule × List Tree)
node_of t = rule_and_children_at (out-Tree t)

abbrev pub if_leaf_at : {X : Type 0} → Tree-F Tree → X → Option X
if_leaf_at Leaf x = Some x
if_leaf_at (Node r children) x = None

abbrev pub if_leaf : {X : Type 0} → Tree → X → Option X
if_leaf t x = if_leaf_at (out-Tree t) x

-- the rule at a path
abbrev pub rule_at : List ℕ → Tree → Option Rule
rule_at [] t = option_map (λ n. n.0) (node_of t)
rule_at (i ∷ path) t = option_and_then (λ n. option_and_then (rule_at path) (slice_get n.1 i)) (node_of t)

abbrev pub child_after : List Antecedent → List Tree → ℕ → Option (Antecedent × Tree)
child_after antecedents children i =
    option_and_then (λ a. option_map (λ child. (a, child)) (slice_get children i)) (slice_get antecedents i)

-- a child of the root, after its antecedent
abbrev pub child_of : ℕ → Tree → Option (Antecedent × Tree)
child_of i t = option_and_then (λ n. child_after n.0.antecedents n.1 i) (node_of t)

-- the sequent at the leaf of a path: the one at the root with what the antecedents on the way add
abbrev pub leaf_at : List ℕ → Tree → Sequent → Option Sequent
leaf_at [] t s = if_leaf t s
leaf_at (i ∷ path) t s = option_and_then (λ x. leaf_at path x.1 (extended s x.0)) (child_of i t)

-- a leaf stands at the path, and its sequent has a property
abbrev pub HasLeaf : List ℕ → Tree → Sequent → (Sequent → Type 0) → Type 0
HasLeaf path t s P = (at : Sequent) × (leaf_at path t s ≡ Some at) × P at

-- the trees with a change of the one at a place, if there is one
abbrev pub change_at : ℕ → (Tree → Tree) → List Tree → List Tree
change_at i change [] = []
change_at zero change (t ∷ trees) = change t ∷ trees
change_at (suc i) change (t ∷ trees) = t ∷ change_at i change trees

abbrev pub with_child : ℕ → (Tree → Tree) → Tree-F Tree → Tree
with_child i change Leaf = tree.Leaf
with_child i change (Node r children) = tree.Node r (change_at i change children)

-- the tree with another part at a path; as it is where there is no such place
abbrev pub put : List ℕ → Tree → Tree → Tree
put [] part t = part
put (i ∷ path) part t = with_child i (put path part) (out-Tree t)

-- a rule with a leaf for each antecedent
abbrev pub with_leaves : Rule → Tree
with_leaves r = tree.Node r (map (λ a. tree.Leaf) r.antecedents)

-- the tree with a rule at the leaf of a path
abbrev pub grown : Rule → List ℕ → Tree → Tree
grown r path t = put path (with_leaves r) t

-- the rule is one of the table, the sequent meets it, and what its antecedents add is new there
pub record AppliesTo (r : Rule) (s : Sequent) : Type 0 where
  pub rule : IsRule r
  pub meets : Meets r s
  pub fresh : AllByRecursion (IsFresh s) r.antecedents
