-- The rule at a path, level by level.
use Rattle.std.proofs.Common.{◌≡◌, ◌∙◌, sym, ap, refl, ℕ, ◌-◌, ◌≤◌, List, [], ◌∷◌, length, take, drop, get_or, Option, None, slice_get, arith}
use Rattle.std.specs.Prelude.{IsSome}
use Rattle.std.specs.Option.{option_map, option_and_then}
use Rattle.rule_table.specs.declared.rule.Rule.{Rule}
use Rattle.sequent_core.specs.declared.tree.Tree.{Tree}
use Rattle.sequent_core.specs.declared.tree.Tree.TheVariants.{Leaf, Node}
use Rattle.proof_steps.specs.Places.{rule_at}
use Rattle.proof_steps.proofs.Nodes.{node_of-Leaf, node_of-Node}

pub rule_at-Leaf : (path : List ℕ) → rule_at path Leaf ≡ None
rule_at-Leaf [] = ap (option_map {T = Rule × List Tree} (λ n. n.0)) node_of-Leaf
rule_at-Leaf (i ∷ path) = ap (option_and_then {T = Rule × List Tree} (λ n. option_and_then (rule_at path) (slice_get n.1 i))) node_of-Leaf

pub rule_at-below : (i : ℕ) (path : List ℕ) (r : Rule) (trees : List Tree) → rule_at (i ∷ path) (Node r trees) ≡ option_and_then (rule_at path) (slice_get trees i)
rule_at-below i path r trees = ap (option_and_then {T = Rule × List Tree} (λ n. option_and_then (rule_at path) (slice_get n.1 i))) (node_of-Node r trees)

pub no_rule : (t : Tree) (path : List ℕ) → t ≡ Leaf → IsSome (rule_at path t) → ⊥
no_rule t path e h = let none = ap (rule_at path) e ∙ rule_at-Leaf path in cc

module _ (t : Tree) (path : List ℕ) (i : ℕ) (rest : List ℕ) (r : Rule) (trees : List Tree) (is : t ≡ Node r trees) (first : path ≡ i ∷ rest) where
  pub at_child : (o : Option Tree) → slice_get trees i ≡ o → rule_at path t ≡ option_and_then (rule_at rest) o
  at_child o e = ap (λ p. rule_at p t) first ∙ ap (rule_at (i ∷ rest)) is ∙ rule_at-below i rest r trees ∙ ap (option_and_then (rule_at rest)) e

take_all : (path : List ℕ) → take (length path) path ≡ path
take_all [] = refl
take_all (x ∷ path) = ap (λ p. x ∷ p) (take_all path)

-- a path with a first step
pub first_of : (path : List ℕ) → 1 ≤ length path → path ≡ get_or path 0 0 ∷ take (length path - 1) (drop 1 path)
first_of [] le = let never : ⊥ = omega (arith, le) in absurd never
first_of (x ∷ path) le =
    let less : length path ≡ length (x ∷ path) - 1 = omega arith in ap (λ p. x ∷ p) (sym (take_all path) ∙ ap (λ n. take n path) less)
