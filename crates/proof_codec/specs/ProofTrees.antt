-- Proof trees as bytes.
use Rattle.std.specs.Prelude.{◌≡◌, ◌≤◌, ℕ, List, [], ◌∷◌, ◌++◌, length}
use Rattle.std.specs.List.{AllByRecursion}
use Rattle.formula_core.specs.Formulas.{joined}
use Rattle.rule_table.specs.declared.rule.Rule.{Rule}
use Rattle.sequent_core.specs.declared.tree.Tree.{Tree}
use Rattle.sequent_core.specs.declared.tree.Tree.TheOpen.{Tree-F, Leaf, Node}
use Rattle.sequent_core.specs.declared.tree.Tree.TheFolds.{fold-Tree}
use Rattle.sequent_core.specs.Trees.{node_count}
use Rattle.proof_codec.specs.Numbers.{number_bytes}
use Rattle.proof_codec.specs.Rules.{rule_bytes, IsGoodRule, IsFitRule}

abbrev pub tree_bytes_step : Tree-F (List ℕ) → List ℕ
tree_bytes_step Leaf = 0 ∷ []
tree_bytes_step (Node r children) = 1 ∷ (rule_bytes r ++ (number_bytes (length children) ++ joined children))

-- the bytes of a tree
abbrev pub tree_bytes : Tree → List ℕ
tree_bytes = fold-Tree (List ℕ) tree_bytes_step

abbrev pub rules_step : Tree-F (List (Rule × ℕ)) → List (Rule × ℕ)
rules_step Leaf = []
rules_step (Node r children) = (r, length children) ∷ joined children

-- the rules in a tree, each with the number of its children
abbrev pub rules_in : Tree → List (Rule × ℕ)
rules_in = fold-Tree (List (Rule × ℕ)) rules_step

-- a rule that has a child for each antecedent
abbrev pub HasChildren : (Rule → Type 0) → Rule × ℕ → Type 0
HasChildren IsOfRule node = IsOfRule node.0 × (node.1 ≡ length node.0.antecedents)

-- a tree of at most 2,048 nodes, leaves counted
pub record IsTreeOf (IsOfRule : Rule → Type 0) (tree : Tree) : Type 0 where
  pub rules : AllByRecursion (HasChildren IsOfRule) (rules_in tree)
  pub few : node_count tree ≤ 2048

abbrev pub IsWritableTree : Tree → Type 0
IsWritableTree = IsTreeOf IsGoodRule

-- a tree that may be written
abbrev pub IsFitTree : Tree → Type 0
IsFitTree = IsTreeOf IsFitRule
