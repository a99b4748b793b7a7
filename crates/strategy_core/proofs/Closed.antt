-- A closed tree has as many nodes as rules.
use Rattle.std.proofs.Common.{◌≡◌, ◌∙◌, sym, subst, refl, ℕ, ◌+◌, ◌≤◌, Bool, true, false, ◌&&◌, List, [], ◌∷◌, map, sum, arith}
use Rattle.std.proofs.lemmas.List.Sums.{sum_by-cons}
use Rattle.std.specs.List.{list_all}
use Rattle.std.specs.Prelude.{Option, Some, None, Result, Ok, Err, IfOk, IfSome}
use Rattle.sequent_core.specs.declared.sequent.Sequent.{Sequent}
use Rattle.sequent_core.specs.declared.tree.Tree.{Tree, roll-Tree}
use Rattle.sequent_core.specs.declared.tree.Tree.TheOpen.{Tree-F, Leaf as LeafF, Node as NodeF}
use Rattle.sequent_core.specs.declared.tree.Tree.TheFolds.{map-Tree, fold-roll-Tree, ind-Tree}
use Rattle.sequent_core.specs.Provers.{IsGoodTree}
use Rattle.sequent_core.specs.Trees.{Derives, is_closed_step, is_closed, node_count_step, node_count, rule_count_step, rule_count}

sum_cons : (x : ℕ) (xs : List ℕ) → sum (x ∷ xs) ≡ x + sum xs
sum_cons x xs = sum_by-cons (λ n. n) x xs

abbrev IsCounted : Tree → Type 0
IsCounted tree = is_closed tree ≡ true → node_count tree ≡ rule_count tree

abbrev Counted : Type 0
Counted = (tree : Tree) × IsCounted tree

both_true : (a b : Bool) → (a && b) ≡ true → (a ≡ true) × (b ≡ true)
both_true true b h = (refl, h)
both_true false b h = absurd cc

each : (es : List Counted) → list_all (λ closed. closed) (map is_closed (map (λ e. e.0) es)) ≡ true
    → sum (map node_count (map (λ e. e.0) es)) ≡ sum (map rule_count (map (λ e. e.0) es))
each [] h = refl
each (e ∷ es) h =
    let both = both_true (is_closed e.0) (list_all (λ closed. closed) (map is_closed (map (λ e. e.0) es))) h in
    let nodes = sum_cons (node_count e.0) (map node_count (map (λ e. e.0) es)) in
    let rules = sum_cons (rule_count e.0) (map rule_count (map (λ e. e.0) es)) in
    let here : node_count e.0 ≡ rule_count e.0 = e.1 both.0 in
    let rest = each es both.1 in
    omega (arith, here, rest, nodes, rules)

step : (y : Tree-F Counted) → IsCounted (roll-Tree (map-Tree Counted Tree (λ e. e.0) y))
step LeafF = λ h. absurd (let both : false ≡ true = sym (fold-roll-Tree Bool is_closed_step LeafF) ∙ h in cc)
step (NodeF r es) = λ h.
    let all = each es (sym (fold-roll-Tree Bool is_closed_step (NodeF r (map (λ e. e.0) es))) ∙ h) in
    omega (arith, fold-roll-Tree ℕ node_count_step (NodeF r (map (λ e. e.0) es)), fold-roll-Tree ℕ rule_count_step (NodeF r (map (λ e. e.0) es)), all)

is_counted : (tree : Tree) → IsCounted tree
is_counted = ind-Tree IsCounted (λ x y is. let Q : Tree-F Tree → Type 0 = λ z. IsCounted (roll-Tree z) in subst Q is (step y))

-- a proof of so few rules may be stored
pub is_good : (tree : Tree) (s : Sequent) (budget : ℕ) → Derives tree s → rule_count tree ≤ budget → budget ≤ 2000 → IsGoodTree tree s
is_good tree s budget derives few most = record { small = omega (arith, is_counted tree derives.closed, few, most); derives = derives }

-- so is what a search finds
pub good_found : {E : Type 0} (s : Sequent) (budget : ℕ) → budget ≤ 2000 → (r : Result (Option Tree) E) → IfOk r (λ o. IfSome o (λ tree. rule_count tree ≤ budget))
    → IfOk r (λ o. IfSome o (λ tree. Derives tree s)) → IfOk r (λ o. IfSome o (λ tree. IsGoodTree tree s))
good_found s budget most (Ok (Some tree)) few derives = is_good tree s budget derives few most
good_found s budget most (Ok None) few derives = tt
good_found s budget most (Err e) few derives = tt
