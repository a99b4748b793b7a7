-- The way to a leaf, level by level.
use Rattle.std.proofs.Common.{◌≡◌, ◌∙◌, sym, ap, subst, refl, ℕ, zero, suc, List, [], ◌∷◌, Option, Some, None, slice_get}
use Rattle.std.specs.List.{AllByRecursion}
use Rattle.std.specs.Option.{option_map, option_and_then}
use Rattle.formula_core.specs.Env.{HasDistinctNames}
use Rattle.rule_table.specs.declared.rule.Antecedent.{Antecedent}
use Rattle.rule_table.specs.declared.rule.Rule.{Rule}
use Rattle.sequent_core.specs.declared.sequent.Sequent.{Sequent}
use Rattle.sequent_core.specs.declared.tree.Tree.{Tree}
use Rattle.sequent_core.specs.PrivateChildren.{EachApplies}
use Rattle.sequent_core.specs.Trees.{extended, IsFresh, Applies}
use Rattle.sequent_core.proofs.Nodes.{applied_rule}
use Rattle.proof_steps.specs.Places.{node_of, child_after, child_of, leaf_at}
use Rattle.proof_steps.proofs.Nodes.{node_is}

module _ {X : Type 0} (P : X → Type 0) where
  all_at : (xs : List X) (i : ℕ) (x : X) → AllByRecursion P xs → slice_get xs i ≡ Some x → P x
  all_at [] i x all e = cc
  all_at (y ∷ xs) zero x all e = let same : y ≡ x = cc in subst P same all.0
  all_at (y ∷ xs) (suc i) x all e = all_at xs i x all.1 e

each_at : (trees : List Tree) (ants : List Antecedent) (s : Sequent) (i : ℕ) (a : Antecedent) (child : Tree)
    → EachApplies trees ants s → slice_get ants i ≡ Some a → slice_get trees i ≡ Some child → IsFresh s a × Applies child (extended s a)
each_at [] [] s i a child e f g = cc
each_at [] (b ∷ ants) s i a child e f g = absurd e
each_at (t ∷ trees) [] s i a child e f g = absurd e
each_at (t ∷ trees) (b ∷ ants) s zero a child e f g =
    let x : b ≡ a = cc in let y : t ≡ child = cc in subst (λ c. IsFresh s c × Applies child (extended s c)) x (e.0, subst (λ c. Applies c (extended s b)) y e.1)
each_at (t ∷ trees) (b ∷ ants) s (suc i) a child e f g = each_at trees ants s i a child e.2 f g

-- a child of a node, after its antecedent
pub child_is : (t : Tree) (r : Rule) (trees : List Tree) (i : ℕ) (a : Antecedent) (child : Tree)
    → node_of t ≡ Some (r, trees) → slice_get r.antecedents i ≡ Some a → slice_get trees i ≡ Some child → child_of i t ≡ Some (a, child)
child_is t r trees i a child e f g =
    ap (option_and_then (λ n. child_after n.0.antecedents n.1 i)) e ∙ (λ j. option_and_then (λ b. option_map (λ c. (b, c)) (g j)) (f j))

-- the node whose child it is
pub record ChildOf (i : ℕ) (t : Tree) (x : Antecedent × Tree) : Type 0 where
  pub node : Rule × List Tree
  pub is : node_of t ≡ Some node
  pub after : slice_get node.0.antecedents i ≡ Some x.0
  pub below : slice_get node.1 i ≡ Some x.1

module _ (i : ℕ) (t : Tree) (x : Antecedent × Tree) where
  in_child : (n : Rule × List Tree) (a : Antecedent) → node_of t ≡ Some n → slice_get n.0.antecedents i ≡ Some a → (o : Option Tree) → slice_get n.1 i ≡ o
      → option_map (λ child. (a, child)) o ≡ Some x → ChildOf i t x
  in_child n a e f None g l = cc
  in_child n a e f (Some child) g l =
      let same : (a, child) ≡ x = cc in record { node = n; is = e; after = f ∙ ap (λ y. Some y.0) same; below = g ∙ ap (λ y. Some y.1) same }

  in_antecedent : (n : Rule × List Tree) → node_of t ≡ Some n → (o : Option Antecedent) → slice_get n.0.antecedents i ≡ o
      → option_and_then (λ a. option_map (λ child. (a, child)) (slice_get n.1 i)) o ≡ Some x → ChildOf i t x
  in_antecedent n e None f l = cc
  in_antecedent n e (Some a) f l = in_child n a e f (slice_get n.1 i) refl l

  in_node : (o : Option (Rule × List Tree)) → node_of t ≡ o → option_and_then (λ n. child_after n.0.antecedents n.1 i) o ≡ Some x → ChildOf i t x
  in_node None e l = cc
  in_node (Some n) e l = in_antecedent n e (slice_get n.0.antecedents i) refl l

  pub child_parts : child_of i t ≡ Some x → ChildOf i t x
  child_parts l = in_node (node_of t) refl l

  -- where the tree applies, what the antecedent adds is new and distinct, and the child applies below it
  pub child_applies : (s : Sequent) → Applies t s → child_of i t ≡ Some x → IsFresh s x.0 × Applies x.1 (extended s x.0) × HasDistinctNames x.0.idents
  child_applies s applied l =
      let c = child_parts l in
      let parts = applied_rule c.node.0 c.node.1 s (subst (λ u. Applies u s) (node_is t c.node c.is) applied) in
      let each = each_at c.node.1 c.node.0.antecedents s i x.0 x.1 parts.2 c.after c.below in
      (each.0, each.1, all_at (λ a. HasDistinctNames a.idents) c.node.0.antecedents i x.0 parts.0.sound.distinct c.after)

pub leaf_below : (t : Tree) (i : ℕ) (path : List ℕ) (s : Sequent) (a : Antecedent) (child : Tree)
    → child_of i t ≡ Some (a, child) → leaf_at (i ∷ path) t s ≡ leaf_at path child (extended s a)
leaf_below t i path s a child e = ap (option_and_then (λ x. leaf_at path x.1 (extended s x.0))) e

pub leaf_nowhere : (t : Tree) (i : ℕ) (path : List ℕ) (s : Sequent) → child_of i t ≡ None → leaf_at (i ∷ path) t s ≡ None
leaf_nowhere t i path s e = ap (option_and_then (λ x. leaf_at path x.1 (extended s x.0))) e

module _ (i : ℕ) (path : List ℕ) (t : Tree) (s at : Sequent) where
  abbrev LeafBelow : Type 0
  LeafBelow = (x : Antecedent × Tree) × (child_of i t ≡ Some x) × (leaf_at path x.1 (extended s x.0) ≡ Some at)

  below_in : (o : Option (Antecedent × Tree)) → child_of i t ≡ o → option_and_then (λ x. leaf_at path x.1 (extended s x.0)) o ≡ Some at → LeafBelow
  below_in None e l = cc
  below_in (Some x) e l = (x, e, l)

  -- a leaf that stands below a child
  pub leaf_parts : leaf_at (i ∷ path) t s ≡ Some at → LeafBelow
  leaf_parts l = below_in (child_of i t) refl l
