-- A tree is no higher than it has nodes.
use Rattle.std.proofs.Common.{◌≡◌, sym, ap, subst, ℕ, ◌≤◌, ◌<◌, ◌+◌, List, [], ◌∷◌, map, sum, arith}
use Rattle.std.proofs.lemmas.List.Sums.{sum_by-cons}
use Rattle.formula_core.specs.Sizes.{greatest}
use Rattle.rule_table.specs.declared.rule.Rule.{Rule}
use Rattle.sequent_core.specs.declared.tree.Tree.{Tree, roll-Tree}
use Rattle.sequent_core.specs.declared.tree.Tree.TheOpen.{Tree-F, Leaf as LeafF, Node as NodeF}
use Rattle.sequent_core.specs.declared.tree.Tree.TheFolds.{map-Tree, fold-roll-Tree, ind-Tree}
use Rattle.sequent_core.specs.Trees.{node_count_step, node_count}
use Rattle.proof_codec.specs.declared.reader.ReadFault.{ReadFault}
use Rattle.proof_codec.specs.Forms.{BeginsNone}
use Rattle.proof_codec.specs.Private.{IsReadAs, Misses, tree_height_step, tree_height, IsTreeWithin}
use Rattle.proof_codec.specs.ProofTrees.{tree_bytes, IsWritableTree}
use Rattle.proof_codec.proofs.Narrow.{narrow_read, narrow_out, narrow_none}

sum-cons : (n : ℕ) (ns : List ℕ) → sum (n ∷ ns) ≡ n + sum ns
sum-cons n ns = sum_by-cons (λ k. k) n ns

abbrev Proved : Type 0
Proved = (tree : Tree) × (tree_height tree ≤ node_count tree)

each : (es : List Proved) → greatest (map tree_height (map (λ e. e.0) es)) ≤ sum (map node_count (map (λ e. e.0) es))
each [] = omega arith
each (e ∷ es) = omega (arith, e.1, each es, sum-cons (node_count e.0) (map node_count (map (λ e. e.0) es)))

step : (y : Tree-F Proved) → tree_height (roll-Tree (map-Tree Proved Tree (λ e. e.0) y)) ≤ node_count (roll-Tree (map-Tree Proved Tree (λ e. e.0) y))
step LeafF = omega (arith, fold-roll-Tree ℕ tree_height_step LeafF, fold-roll-Tree ℕ node_count_step LeafF)
step (NodeF r es) =
    omega (arith, fold-roll-Tree ℕ tree_height_step (NodeF r (map (λ e. e.0) es)), fold-roll-Tree ℕ node_count_step (NodeF r (map (λ e. e.0) es)), each es)

low : (tree : Tree) → tree_height tree ≤ node_count tree
low = ind-Tree (λ tree. tree_height tree ≤ node_count tree) (λ x y is. let Q : Tree-F Tree → Type 0 = λ z. tree_height (roll-Tree z) ≤ node_count (roll-Tree z) in subst Q is (step y))

fewer : (tree : Tree) → IsWritableTree tree → IsTreeWithin 2048 tree
fewer tree is = record { rules = is.rules; low = omega (arith, low tree, is.few) }

pub tree_read : (old new : List ℕ) (tree : Tree) → IsReadAs (IsTreeWithin 2048) tree_bytes old tree new → node_count tree ≤ 2048 → IsReadAs IsWritableTree tree_bytes old tree new
tree_read old new tree read few = narrow_read (IsTreeWithin 2048) IsWritableTree tree_bytes fewer old new tree read (record { rules = read.here.good.rules; few = few })

pub no_tree : (old new : List ℕ) (tree : Tree) → IsReadAs (IsTreeWithin 2048) tree_bytes old tree new → 2048 < node_count tree → BeginsNone IsWritableTree tree_bytes old
no_tree old new tree read many = narrow_out (IsTreeWithin 2048) IsWritableTree tree_bytes fewer old new tree read (λ is. omega (arith, is.few, many))

pub no_tree_there : (fault : ReadFault) (old : List ℕ) → Misses (IsTreeWithin 2048) tree_bytes old fault → Misses IsWritableTree tree_bytes old fault
no_tree_there fault old bad = narrow_none (IsTreeWithin 2048) IsWritableTree tree_bytes fewer old old fault bad
