-- Trees that are written.
use Rattle.std.proofs.Common.{◌≡◌, ◌∙◌, sym, ap, subst, refl, ℕ, zero, suc, ◌+◌, ◌≤◌, ◌<◌, ◌^◌, List, [], ◌∷◌, ◌++◌, length, map, slice_get, Some, arith, append_assoc}
use Rattle.std.specs.List.{AllByRecursion}
use Rattle.std.proofs.lemmas.List.{length-map}
use Rattle.formula_core.specs.Sizes.{greatest}
use Rattle.rule_table.specs.declared.rule.Rule.{Rule}
use Rattle.sequent_core.specs.declared.tree.Tree.{Tree, roll-Tree}
use Rattle.sequent_core.specs.declared.tree.Tree.TheOpen.{Tree-F, Leaf as LeafF, Node as NodeF}
use Rattle.sequent_core.specs.declared.tree.Tree.TheVariants.{Leaf, Node}
use Rattle.sequent_core.specs.declared.tree.Tree.TheViews.{rolls-Leaf, rolls-Node}
use Rattle.proof_codec.specs.Numbers.{IsByte, byte}
use Rattle.proof_codec.specs.Parts.{IsList, list_bytes}
use Rattle.proof_codec.specs.Rules.{rule_bytes, IsGoodRule, IsFitRule}
use Rattle.proof_codec.specs.ProofTrees.{tree_bytes, rules_in, HasChildren, IsTreeOf, IsWritableTree, IsFitTree}
use Rattle.proof_codec.specs.Private.{HasGoodRules, HasFitRules, AreFitTrees, IsWrittenAs, tree_height}
use Rattle.proof_codec.proofs.Branches.{bytes_at, rules_at, height_at, each_tree, all_trees}

pub small_rules : (tree : Tree) → IsFitTree tree → HasFitRules tree
small_rules tree is = is.rules

pub tree_written : (tree : Tree) (old new : List ℕ) → IsFitTree tree → IsWrittenAs HasGoodRules tree_bytes tree old new → IsWrittenAs IsWritableTree tree_bytes tree old new
tree_written tree old new is written = record { good = record { rules = written.good; few = is.few }; bytes = written.bytes }

-- what a node that may be written has
pub small_node : (r : Rule) (children : List Tree) → HasFitRules (Node r children) → IsFitRule r × IsList HasFitRules children × (length children ≡ length r.antecedents)
small_node r children all =
    let at = subst (λ t. AllByRecursion (HasChildren IsFitRule) (rules_in t)) (sym (rolls-Node r children)) all in
    let parts = subst (AllByRecursion (HasChildren IsFitRule)) (rules_at (NodeF r children)) at in
    let as_many : length children ≡ length r.antecedents = sym (length-map children rules_in) ∙ parts.0.1 in
    (parts.0.0, (subst (λ n. n < 2 ^ 32) (sym as_many) parts.0.0.1.1.1.1.0, each_tree (HasChildren IsFitRule) children parts.1), as_many)

pub small_rule : (r : Rule) (children : List Tree) → HasFitRules (Node r children) → IsFitRule r
small_rule r children fit = (small_node r children fit).0

pub fit_children : (tree : Tree) (r : Rule) (children xs : List Tree) → HasFitRules tree → tree ≡ Node r children → xs ≡ children → AreFitTrees xs
fit_children tree r children xs fit is same =
    let small = small_node r children (subst HasFitRules is fit) in
    subst AreFitTrees (sym same) (record { few = small.1.0; fit = small.1.1 })

-- children are lower than the tree
pub lower_children : (tree : Tree) (r : Rule) (children xs : List Tree) → tree ≡ Node r children → xs ≡ children → greatest (map tree_height xs) + 1 ≡ tree_height tree
lower_children tree r children xs is same =
    ap (λ (ys : List Tree). greatest (map tree_height ys) + 1) same ∙ sym (height_at (NodeF r children)) ∙ ap tree_height (rolls-Node r children ∙ sym is)

pub among_trees : (xs : List Tree) (i : ℕ) (x : Tree) → slice_get xs i ≡ Some x → tree_height x ≤ greatest (map tree_height xs)
among_trees [] i x is = absurd cc
among_trees (y ∷ ys) zero x is = let same : y ≡ x = (let e : Some y ≡ Some x = is in cc) in omega (arith, ap tree_height same)
among_trees (y ∷ ys) (suc i) x is = omega (arith, among_trees ys i x is)

pub leaf_written : (old new : List ℕ) → IsWrittenAs IsByte byte 0 old new → IsWrittenAs HasGoodRules tree_bytes Leaf old new
leaf_written old new first = record {
  good = subst (λ t. AllByRecursion (HasChildren IsGoodRule) (rules_in t)) rolls-Leaf (subst (AllByRecursion (HasChildren IsGoodRule)) (sym (rules_at LeafF)) tt);
  bytes = first.bytes ∙ ap (λ b. old ++ b) (sym (bytes_at LeafF) ∙ ap tree_bytes rolls-Leaf);
}

pub node_written : (r : Rule) (children : List Tree) (old one two new : List ℕ) → HasFitRules (Node r children) → IsWrittenAs IsByte byte 1 old one → IsWrittenAs IsGoodRule rule_bytes r one two
    → IsWrittenAs (IsList HasGoodRules) (list_bytes tree_bytes) children two new → IsWrittenAs HasGoodRules tree_bytes (Node r children) old new
node_written r children old one two new small first rule rest =
    let as_many = (small_node r children small).2 in
    record {
      good = subst (λ t. AllByRecursion (HasChildren IsGoodRule) (rules_in t)) (rolls-Node r children)
          (subst (AllByRecursion (HasChildren IsGoodRule)) (sym (rules_at (NodeF r children)))
          ((rule.good, length-map children rules_in ∙ as_many), all_trees (HasChildren IsGoodRule) children rest.good.1));
      bytes = rest.bytes ∙ ap (λ b. b ++ list_bytes tree_bytes children) (rule.bytes ∙ ap (λ b. b ++ rule_bytes r) first.bytes)
          ∙ append_assoc (old ++ 1 ∷ []) (rule_bytes r) (list_bytes tree_bytes children) ∙ append_assoc old (1 ∷ []) (rule_bytes r ++ list_bytes tree_bytes children)
          ∙ ap (λ b. old ++ b) (sym (bytes_at (NodeF r children)) ∙ ap tree_bytes (rolls-Node r children));
    }
