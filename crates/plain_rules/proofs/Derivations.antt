-- What is derived by plain rules is true in each reading.
use Rattle.std.proofs.Common.{◌≡◌, ◌∙◌, sym, ap, subst, refl, ℕ, zero, suc, ◌+◌, ◌<◌, Bool, true, false, List, [], ◌∷◌, map, length, Option, Some, None, if◌then◌else◌, arith}
use Rattle.std.specs.List.{AllByRecursion, list_all}
use Rattle.std.specs.Prelude.{Contains, slice_index_or, unwrap_or}
use Rattle.formula_core.specs.declared.Formula.{Formula}
use Rattle.formula_core.proofs.Weakening.{first_true, second_true}
use Rattle.rule_table.specs.declared.rule.Antecedent.{Antecedent}
use Rattle.rule_table.specs.declared.rule.Rule.{Rule}
use Rattle.rule_table.specs.Rules.{IsRule, body_of}
use Rattle.sequent_core.specs.declared.sequent.Sequent.{Sequent}
use Rattle.sequent_core.specs.declared.tree.Tree.{Tree, roll-Tree}
use Rattle.sequent_core.specs.declared.tree.Tree.TheOpen.{Tree-F, Leaf as LeafF, Node as NodeF}
use Rattle.sequent_core.specs.declared.tree.Tree.TheVariants.{Leaf, Node}
use Rattle.sequent_core.specs.declared.tree.Tree.TheViews.{rolls-Leaf, rolls-Node}
use Rattle.sequent_core.specs.declared.tree.Tree.TheFolds.{map-Tree, ind-Tree, fold-roll-Tree}
use Rattle.sequent_core.specs.PrivateChildren.{EachApplies}
use Rattle.sequent_core.specs.Trees.{goal_or, extended, Applies, Derives, is_closed}
use Rattle.sequent_core.proofs.Nodes.{all_both, applied_rule, closed-Leaf, closed-Node}
use Rattle.formula_readings.specs.Readings.{AtomValues, comparison}
use Rattle.plain_logic.specs.Plain.{is_plain_rule}
use Rattle.plain_logic.proofs.LogicKinds.{Holds, IsLeftTrue, Keeps}
use Rattle.plain_rules.specs.Derivations.{first_below, not_plain_step, not_plain}

not_plain-Node : (r : Rule) (trees : List Tree) → not_plain (Node r trees) ≡ (if is_plain_rule r then first_below 0 (map not_plain trees) else Some [])
not_plain-Node r trees = ap not_plain (sym (rolls-Node r trees)) ∙ fold-roll-Tree (Option (List ℕ)) not_plain_step (NodeF r trees)

module _ {X : Type 0} (P : X → Type 0) where
  at_index : (xs : List X) (k : ℕ) (x : X) → AllByRecursion P xs → k < length xs → slice_index_or xs k x ≡ x → P x
  at_index [] k x all lt e = absurd (omega (arith, lt))
  at_index (y ∷ xs) zero x all lt e = subst P e all.0
  at_index (y ∷ xs) (suc k) x all lt e = at_index xs k x all.1 (omega (arith, lt)) e

  pub of_all : (xs : List X) (x : X) → AllByRecursion P xs → Contains xs x → P x
  of_all xs x all h = at_index xs h.0 x all h.1 h.2

  all_of : (xs ys : List X) → AllByRecursion P xs → AllByRecursion (Contains xs) ys → AllByRecursion P ys
  all_of xs [] all h = tt
  all_of xs (y ∷ ys) all h = (of_all xs y all h.0, all_of xs ys all h.1)

-- a rule is plain, and below it no rule is not
plain_node : (b : Bool) (below : Option (List ℕ)) → (if b then below else Some []) ≡ None → (b ≡ true) × (below ≡ None)
plain_node true below e = (refl, e)
plain_node false below e = absurd (cc)

none_below : (i : ℕ) (xs : List (Option (List ℕ))) → first_below i xs ≡ None → AllByRecursion (λ o. o ≡ None) xs
none_below i [] e = tt
none_below i (Some p ∷ xs) e = absurd (cc)
none_below i (None ∷ xs) e = (refl, none_below (i + 1) xs e)

module _ (v : AtomValues)
    (plain_keeps : (r : Rule) → IsRule r → is_plain_rule r ≡ true → Keeps (comparison v) (body_of r)) where
  abbrev Is : Formula → Type 0
  Is = Holds (comparison v)

  abbrev IsTrueAt : Sequent → Type 0
  IsTrueAt s = AllByRecursion Is s.hyps → Is s.goal

  abbrev pub Keeping : Tree → Type 0
  Keeping tree = (s : Sequent) → Applies tree s → is_closed tree ≡ true → not_plain tree ≡ None → IsTrueAt s

  same_goal : (g : Option Formula) (goal : Formula) → goal_or g goal ≡ unwrap_or g goal
  same_goal None goal = refl
  same_goal (Some g) goal = refl

  each_left : (trees : List Tree) (ants : List Antecedent) (s : Sequent) → AllByRecursion Keeping trees → EachApplies trees ants s
      → list_all (λ closed. closed) (map is_closed trees) ≡ true → AllByRecursion (λ o. o ≡ None) (map not_plain trees) → AllByRecursion Is s.hyps
      → AllByRecursion (IsLeftTrue (comparison v) s.goal) ants
  each_left [] [] s each e c p hyps = tt
  each_left [] (a ∷ ants) s each e c p hyps = absurd e
  each_left (t ∷ trees) [] s each e c p hyps = absurd e
  each_left (t ∷ trees) (a ∷ ants) s each e c p hyps = (
    λ added. subst Is (same_goal a.goal s.goal) (each.0 (extended s a) e.1 (first_true (is_closed t) _ c) p.0 (all_both Is s.hyps a.hyps hyps added)),
    each_left trees ants s each.1 e.2 (second_true (is_closed t) _ c) p.1 hyps,
  )

  at_leaf : Keeping Leaf
  at_leaf s a c p hyps = let open_leaf : is_closed Leaf ≡ false = closed-Leaf in absurd (cc)

  at_node : (r : Rule) (trees : List Tree) → AllByRecursion Keeping trees → Keeping (Node r trees)
  at_node r trees each s a c p hyps =
      let fits = applied_rule r trees s a in
      let plain = plain_node (is_plain_rule r) (first_below 0 (map not_plain trees)) (sym (not_plain-Node r trees) ∙ p) in
      plain_keeps r fits.0 plain.0 s.goal fits.1.goal (all_of Is s.hyps r.needed_hyps hyps fits.1.hyps)
      (each_left trees r.antecedents s each fits.2 (sym (closed-Node r trees) ∙ c) (none_below 0 (map not_plain trees) plain.1) hyps)

  abbrev Proved : Type 0
  Proved = (tree : Tree) × Keeping tree

  each : (es : List Proved) → AllByRecursion Keeping (map (λ e. e.0) es)
  each [] = tt
  each (e ∷ es) = (e.1, each es)

  step : (y : Tree-F Proved) → Keeping (roll-Tree (map-Tree Proved Tree (λ e. e.0) y))
  step LeafF = subst Keeping (sym rolls-Leaf) at_leaf
  step (NodeF r es) = subst Keeping (sym (rolls-Node r (map (λ e. e.0) es))) (at_node r (map (λ e. e.0) es) (each es))

  keeping : (tree : Tree) → Keeping tree
  keeping = ind-Tree Keeping (λ x y is. let Q : Tree-F Tree → Type 0 = λ z. Keeping (roll-Tree z) in subst Q is (step y))

  -- a plain derivation, in one reading
  pub derived_is_true : (tree : Tree) (s : Sequent) → Derives tree s → not_plain tree ≡ None → IsTrueAt s
  derived_is_true tree s d p = keeping tree s d.applies d.closed p
