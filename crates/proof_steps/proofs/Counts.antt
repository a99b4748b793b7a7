-- How many nodes a tree has after a step.
use Rattle.std.proofs.Common.{◌≡◌, ◌∙◌, sym, ap, subst, refl, ℕ, zero, suc, ◌+◌, List, [], ◌∷◌, map, length, sum, Some, slice_get, arith}
use Rattle.std.proofs.lemmas.List.Sums.{sum_by-cons}
use Rattle.rule_table.specs.declared.rule.Antecedent.{Antecedent}
use Rattle.rule_table.specs.declared.rule.Rule.{Rule}
use Rattle.sequent_core.specs.declared.sequent.Sequent.{Sequent}
use Rattle.sequent_core.specs.declared.tree.Tree.{Tree, out-Tree}
use Rattle.sequent_core.specs.declared.tree.Tree.TheVariants.{Leaf, Node}
use Rattle.sequent_core.specs.declared.tree.Tree.TheViews.{outs-Node}
use Rattle.sequent_core.specs.Trees.{extended, node_count}
use Rattle.sequent_core.proofs.Nodes.{node_count-Leaf, node_count-Node}
use Rattle.proof_steps.specs.Places.{node_of, leaf_at, change_at, with_child, put, with_leaves, grown}
use Rattle.proof_steps.proofs.Descent.{child_parts, leaf_parts}
use Rattle.proof_steps.proofs.Nodes.{node_is, leaf_is}

sum_cons : (x : ℕ) (xs : List ℕ) → sum (x ∷ xs) ≡ x + sum xs
sum_cons x xs = sum_by-cons (λ n. n) x xs

-- the sum of the nodes with another child
count_change : (trees : List Tree) (i : ℕ) (child : Tree) (change : Tree → Tree) (k : ℕ) → slice_get trees i ≡ Some child → node_count (change child) + 1 ≡ node_count child + k
    → sum (map node_count (change_at i change trees)) + 1 ≡ sum (map node_count trees) + k
count_change [] i child change k g h = cc
count_change (t ∷ trees) zero child change k g h =
    let is : t ≡ child = cc in
    let here : node_count (change t) + 1 ≡ node_count t + k = subst (λ x. node_count (change x) + 1 ≡ node_count x + k) (sym is) h in
    let new = sum_cons (node_count (change t)) (map node_count trees) in
    let old = sum_cons (node_count t) (map node_count trees) in
    omega (arith, here, new, old)
count_change (t ∷ trees) (suc i) child change k g h =
    let rest = count_change trees i child change k g h in
    let new = sum_cons (node_count t) (map node_count (change_at i change trees)) in
    let old = sum_cons (node_count t) (map node_count trees) in
    omega (arith, rest, new, old)

put_below : (i : ℕ) (path : List ℕ) (t part : Tree) (n : Rule × List Tree)
    → node_of t ≡ Some n → put (i ∷ path) part t ≡ Node n.0 (change_at i (put path part) n.1)
put_below i path t part n e = ap (λ x. with_child i (put path part) (out-Tree x)) (node_is t n e) ∙ ap (with_child i (put path part)) (outs-Node n.0 n.1)

-- the number of nodes with another part where a leaf was
count_put : (path : List ℕ) (t part : Tree) (s at : Sequent) → leaf_at path t s ≡ Some at → node_count (put path part t) + 1 ≡ node_count t + node_count part
count_put [] t part s at l = let leaf : node_count t ≡ 1 = ap node_count (leaf_is t s at l).0 ∙ node_count-Leaf in omega (arith, leaf)
count_put (i ∷ path) t part s at l =
    let b = leaf_parts i path t s at l in
    let c = child_parts i t b.0 b.1 in
    let below = count_put path b.0.1 part (extended s b.0.0) at b.2 in
    let all = count_change c.node.1 i b.0.1 (put path part) (node_count part) c.below below in
    let old : node_count t ≡ sum (map node_count c.node.1) + 1 = ap node_count (node_is t c.node c.is) ∙ node_count-Node c.node.0 c.node.1 in
    let new : node_count (put (i ∷ path) part t) ≡ sum (map node_count (change_at i (put path part) c.node.1)) + 1 =
    ap node_count (put_below i path t part c.node c.is) ∙ node_count-Node c.node.0 (change_at i (put path part) c.node.1) in
    omega (arith, all, old, new)

-- the number of nodes of a rule with its leaves
count_leaves : (ants : List Antecedent) → sum (map node_count (map (λ a. Leaf) ants)) ≡ length ants
count_leaves [] = refl
count_leaves (a ∷ ants) =
    sum_cons (node_count Leaf) (map node_count (map (λ a. Leaf) ants)) ∙ (λ j. node_count-Leaf j + count_leaves ants j) ∙ omega arith

count_with_leaves : (r : Rule) → node_count (with_leaves r) ≡ length r.antecedents + 1
count_with_leaves r = node_count-Node r (map (λ a. Leaf) r.antecedents) ∙ ap (λ n. n + 1) (count_leaves r.antecedents)

pub count_grown : (r : Rule) (path : List ℕ) (t : Tree) (s at : Sequent) → leaf_at path t s ≡ Some at → node_count (grown r path t) ≡ node_count t + length r.antecedents
count_grown r path t s at l =
    let put_count = count_put path t (with_leaves r) s at l in let leaves = count_with_leaves r in omega (arith, put_count, leaves)
