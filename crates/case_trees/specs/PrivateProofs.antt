-- Proofs of so many rules, and refutations of hypotheses.
use Rattle.std.specs.Prelude.{◌≡◌, ◌≤◌, ℕ, List, IsTrue, Contains}
use Rattle.std.specs.List.{AllByRecursion}
use Rattle.formula_core.specs.declared.Formula.{Formula}
use Rattle.formula_core.specs.declared.Ty.{Ty}
use Rattle.formula_core.specs.Sizes.{formula_nodes, formula_height, has_types_within}
use Rattle.formula_core.specs.Typed.{IsPredicateIn}
use Rattle.rule_table.specs.Shapes.{bottom}
use Rattle.sequent_core.specs.declared.sequent.Sequent.{Sequent}
use Rattle.sequent_core.specs.declared.tree.Tree.{Tree}
use Rattle.sequent_core.specs.Trees.{Derives, node_count, rule_count}

-- a proof of so many rules
pub record IsProofOf (n : ℕ) (tree : Tree) (s : Sequent) : Type 0 where
  pub derives : Derives tree s
  pub nodes : node_count tree ≡ n
  pub rules : rule_count tree ≡ n

-- a predicate of the environment, of so many nodes and such a height at most
pub record IsPredicateWithin (env : List (List ℕ × Ty)) (n m : ℕ) (f : Formula) : Type 0 where
  pub predicate : IsPredicateIn env f
  pub nodes : formula_nodes f ≤ n
  pub height : formula_height f ≤ m
  pub types : IsTrue (has_types_within 4096 f)

-- a tree of so many rules that proves the goal in each sequent of the environment which has these hypotheses
abbrev pub Proves : List (List ℕ × Ty) → List Formula → ℕ → Tree → Formula → Type 0
Proves env hs n tree goal =
    (s : Sequent) → s.env ≡ env → AllByRecursion (Contains s.hyps) hs → s.goal ≡ goal → IsProofOf n tree s

-- the same of ⊥
abbrev pub Refutes : List (List ℕ × Ty) → List Formula → ℕ → Tree → Type 0
Refutes env hs n tree = Proves env hs n tree bottom
