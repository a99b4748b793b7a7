-- The lines of trees, level by level.
use Rattle.std.proofs.Common.{◌≡◌, ◌∙◌, sym, ap, refl, ℕ, ◌+◌, ◌<◌, ◌≤◌, List, [], ◌∷◌, ◌++◌, map, drop, get_or, length, add-one, Bor}
use Rattle.std.proofs.Math.Seq.{drop-cons}
use Rattle.std.proofs.lemmas.Option.{slice_get_past, slice_get-get_or}
use Rattle.std.specs.Prelude.{Option, Some, None, slice_get, IfSome, MatchOption}
use Rattle.std.specs.Option.{option_copied}
use Rattle.formula_core.specs.declared.Formula.{Formula}
use Rattle.rule_table.specs.declared.Antecedent.{Antecedent}
use Rattle.rule_table.specs.declared.Rule.{Rule}
use Rattle.rule_table.specs.Kinds.{kind_number}
use Rattle.sequent_core.specs.declared.Tree.{Tree}
use Rattle.sequent_core.specs.declared.tree.Tree.TheOpen.{Leaf as LeafF, Node as NodeF}
use Rattle.sequent_core.specs.declared.tree.Tree.TheVariants.{Leaf, Node}
use Rattle.sequent_core.specs.declared.tree.Tree.TheViews.{rolls-Leaf, rolls-Node}
use Rattle.sequent_core.specs.declared.tree.Tree.TheFolds.{fold-roll-Tree}
use Rattle.core_steps.specs.declared.events.NodeLine.{NodeLine}
use Rattle.core_steps.specs.Proving.{goal_of, lines_below, lines_step, node_lines}

pub lines-Leaf : (path : List ℕ) (goal : Option Formula) → node_lines Leaf path goal ≡ record { path = path; kind = None; goal = goal } ∷ []
lines-Leaf path goal =
    ap (λ t. node_lines t path goal) (sym rolls-Leaf) ∙ ap (λ g. g path goal) (fold-roll-Tree (List ℕ → Option Formula → List NodeLine) lines_step LeafF)

pub lines-Node : (r : Rule) (children : List Tree) (path : List ℕ) (goal : Option Formula) →
    node_lines (Node r children) path goal
    ≡ record { path = path; kind = Some (kind_number r.kind); goal = None } ∷ lines_below 0 (map node_lines children) r.antecedents path goal
lines-Node r children path goal =
    ap (λ t. node_lines t path goal) (sym (rolls-Node r children))
    ∙ ap (λ g. g path goal) (fold-roll-Tree (List ℕ → Option Formula → List NodeLine) lines_step (NodeF r children))

-- the lines of one child more
pub lines_more : (children : List Tree) (antecedents : List Antecedent) (path : List ℕ) (goal : Option Formula) (at : ℕ) (child : Tree) →
    at < length children → child ≡ get_or children at child →
    lines_below at (map node_lines (drop at children)) antecedents path goal
    ≡ node_lines child (path ++ at ∷ []) (goal_of (slice_get antecedents at) goal) ++ lines_below (at + 1) (map node_lines (drop (at + 1) children)) antecedents path goal
lines_more children antecedents path goal at child lt is =
    let cut : drop at children ≡ child ∷ drop (at + 1) children = drop-cons children at child lt ∙ rw (add-one, ← is) refl in
    ap (λ (cs : List Tree). lines_below at (map node_lines cs) antecedents path goal) cut

-- what stands behind the reference that is got at a place
pub got : {X : Type 0} (P : Bor X → Type 0) (xs : List X) (i : ℕ) (r : Option (Bor X)) → MatchOption r (length xs ≤ i) (λ x. (i < length xs) × P x) →
    IfSome r (λ x. x.now ≡ get_or xs i x.now) → option_copied r ≡ slice_get xs i
got P xs i None past h = sym (slice_get_past xs i past)
got P xs i (Some x) within h = ap (λ y. Some y) h ∙ sym (slice_get-get_or xs i x.now within.0)
