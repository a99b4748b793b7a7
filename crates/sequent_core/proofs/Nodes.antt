-- `Applies`, level by level.
use Rattle.std.proofs.Common.{◌≡◌, ◌∙◌, sym, ap, subst, refl, ℕ, suc, ◌+◌, Bool, true, false, List, [], ◌∷◌, ◌++◌, map, length, sum, arith}
use Rattle.std.specs.List.{AllByRecursion, list_all, list_any}
use Rattle.std.specs.Prelude.{if◌then◌else◌}
use Rattle.sequent_core.specs.declared.sequent.Sequent.{Sequent}
use Rattle.rule_table.specs.declared.rule.Rule.{Rule}
use Rattle.rule_table.specs.declared.rule.Antecedent.{Antecedent}
use Rattle.sequent_core.specs.declared.tree.Tree.{Tree}
use Rattle.sequent_core.specs.declared.tree.Tree.TheOpen.{Leaf as LeafF, Node as NodeF}
use Rattle.sequent_core.specs.declared.tree.Tree.TheVariants.{Leaf, Node}
use Rattle.sequent_core.specs.declared.tree.Tree.TheViews.{rolls-Leaf, rolls-Node}
use Rattle.sequent_core.specs.declared.tree.Tree.TheFolds.{fold-roll-Tree}
use Rattle.rule_table.specs.Parts.{is_review}
use Rattle.rule_table.specs.Rules.{IsRule}
use Rattle.sequent_core.specs.Trees.{extended, Meets, IsFresh, NodeAt, nodes_below, nodes_step, nodes, Fits, Applies, is_closed_step, is_closed, is_reviewed_step, is_reviewed, Derives, node_count_step, node_count, rule_count_step, rule_count}
use Rattle.sequent_core.specs.PrivateChildren.{EachApplies}

module _ {X : Type 0} (P : X → Type 0) where
  pub all_both : (xs ys : List X) → AllByRecursion P xs → AllByRecursion P ys → AllByRecursion P (xs ++ ys)
  all_both [] ys a b = b
  all_both (x ∷ xs) ys a b = (a.0, all_both xs ys a.1 b)

  pub all_first : (xs ys : List X) → AllByRecursion P (xs ++ ys) → AllByRecursion P xs
  all_first [] ys a = tt
  all_first (x ∷ xs) ys a = (a.0, all_first xs ys a.1)

  pub all_last : (xs ys : List X) → AllByRecursion P (xs ++ ys) → AllByRecursion P ys
  all_last [] ys a = a
  all_last (x ∷ xs) ys a = all_last xs ys a.1

-- the equations of the folds over trees
pub nodes-Leaf : (s : Sequent) → nodes Leaf s ≡ []
nodes-Leaf s = ap (λ t. nodes t s) (sym rolls-Leaf) ∙ ap (λ g. g s) (fold-roll-Tree (Sequent → List NodeAt) nodes_step LeafF)

abbrev node_at : Rule → List Tree → Sequent → NodeAt
node_at r trees s = record { rule = r; children = length (map nodes trees); sequent = s }

nodes-Node : (r : Rule) (trees : List Tree) (s : Sequent) → nodes (Node r trees) s ≡ node_at r trees s ∷ nodes_below s (map nodes trees) r.antecedents
nodes-Node r trees s = ap (λ t. nodes t s) (sym (rolls-Node r trees)) ∙ ap (λ g. g s) (fold-roll-Tree (Sequent → List NodeAt) nodes_step (NodeF r trees))

pub closed-Leaf : is_closed Leaf ≡ false
closed-Leaf = ap is_closed (sym rolls-Leaf) ∙ fold-roll-Tree Bool is_closed_step LeafF

pub closed-Node : (r : Rule) (trees : List Tree) → is_closed (Node r trees) ≡ list_all (λ closed. closed) (map is_closed trees)
closed-Node r trees = ap is_closed (sym (rolls-Node r trees)) ∙ fold-roll-Tree Bool is_closed_step (NodeF r trees)

pub reviewed-Leaf : is_reviewed Leaf ≡ false
reviewed-Leaf = ap is_reviewed (sym rolls-Leaf) ∙ fold-roll-Tree Bool is_reviewed_step LeafF

pub reviewed-Node : (r : Rule) (trees : List Tree)
    → is_reviewed (Node r trees) ≡ (if is_review r.kind then true else list_any (λ reviewed. reviewed) (map is_reviewed trees))
reviewed-Node r trees = ap is_reviewed (sym (rolls-Node r trees)) ∙ fold-roll-Tree Bool is_reviewed_step (NodeF r trees)

pub node_count-Leaf : node_count Leaf ≡ 1
node_count-Leaf = ap node_count (sym rolls-Leaf) ∙ fold-roll-Tree ℕ node_count_step LeafF

pub node_count-Node : (r : Rule) (trees : List Tree) → node_count (Node r trees) ≡ sum (map node_count trees) + 1
node_count-Node r trees = ap node_count (sym (rolls-Node r trees)) ∙ fold-roll-Tree ℕ node_count_step (NodeF r trees)

pub rule_count-Leaf : rule_count Leaf ≡ 0
rule_count-Leaf = ap rule_count (sym rolls-Leaf) ∙ fold-roll-Tree ℕ rule_count_step LeafF

pub rule_count-Node : (r : Rule) (trees : List Tree) → rule_count (Node r trees) ≡ sum (map rule_count trees) + 1
rule_count-Node r trees = ap rule_count (sym (rolls-Node r trees)) ∙ fold-roll-Tree ℕ rule_count_step (NodeF r trees)

each_of : (trees : List Tree) (ants : List Antecedent) (s : Sequent)
    → length (map nodes trees) ≡ length ants → AllByRecursion (IsFresh s) ants → AllByRecursion Fits (nodes_below s (map nodes trees) ants) → EachApplies trees ants s
each_of [] [] s e f b = tt
each_of [] (a ∷ ants) s e f b = cc
each_of (t ∷ trees) [] s e f b = cc
each_of (t ∷ trees) (a ∷ ants) s e f b =
    (f.0, all_first Fits (nodes t (extended s a)) (nodes_below s (map nodes trees) ants) b, each_of trees ants s (omega (arith, e)) f.1 (all_last Fits (nodes t (extended s a)) (nodes_below s (map nodes trees) ants) b))

length_of : (trees : List Tree) (ants : List Antecedent) (s : Sequent) → EachApplies trees ants s → length (map nodes trees) ≡ length ants
length_of [] [] s e = refl
length_of [] (a ∷ ants) s e = absurd e
length_of (t ∷ trees) [] s e = absurd e
length_of (t ∷ trees) (a ∷ ants) s e = ap suc (length_of trees ants s e.2)

fresh_of : (trees : List Tree) (ants : List Antecedent) (s : Sequent) → EachApplies trees ants s → AllByRecursion (IsFresh s) ants
fresh_of [] [] s e = tt
fresh_of [] (a ∷ ants) s e = absurd e
fresh_of (t ∷ trees) [] s e = absurd e
fresh_of (t ∷ trees) (a ∷ ants) s e = (e.0, fresh_of trees ants s e.2)

below_of : (trees : List Tree) (ants : List Antecedent) (s : Sequent) → EachApplies trees ants s → AllByRecursion Fits (nodes_below s (map nodes trees) ants)
below_of [] [] s e = tt
below_of [] (a ∷ ants) s e = absurd e
below_of (t ∷ trees) [] s e = absurd e
below_of (t ∷ trees) (a ∷ ants) s e = all_both Fits (nodes t (extended s a)) (nodes_below s (map nodes trees) ants) e.1 (below_of trees ants s e.2)

-- a leaf applies to every sequent
pub leaf_applies : (s : Sequent) → Applies Leaf s
leaf_applies s = subst (AllByRecursion Fits) (sym (nodes-Leaf s)) tt

-- a tree of a rule and its children applies where the rule does and each child does
pub node_applies : (r : Rule) (trees : List Tree) (s : Sequent) → IsRule r → Meets r s → EachApplies trees r.antecedents s → Applies (Node r trees) s
node_applies r trees s i m e = subst (AllByRecursion Fits) (sym (nodes-Node r trees s))
    (record { rule = i; meets = m; children = length_of trees r.antecedents s e; fresh = fresh_of trees r.antecedents s e }, below_of trees r.antecedents s e)

-- where a tree of a rule and its children applies, the rule does and each child does
pub applied_rule : (r : Rule) (trees : List Tree) (s : Sequent) → Applies (Node r trees) s → IsRule r × Meets r s × EachApplies trees r.antecedents s
applied_rule r trees s a =
    let b : AllByRecursion Fits (node_at r trees s ∷ nodes_below s (map nodes trees) r.antecedents) = subst (AllByRecursion Fits) (nodes-Node r trees s) a in
    (b.0.rule, b.0.meets, each_of trees r.antecedents s b.0.children b.0.fresh b.1)

-- a leaf derives nothing
pub derives_not_leaf : (tree : Tree) (s : Sequent) → Derives tree s → tree ≡ Leaf → ⊥
derives_not_leaf tree s d e = let closed : is_closed tree ≡ true = d.closed in let open_leaf : is_closed tree ≡ false = ap is_closed e ∙ closed-Leaf in cc
