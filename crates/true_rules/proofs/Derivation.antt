-- Induction over derivations.
use Rattle.std.proofs.Common.{Bool, List, [], false, map, refl, subst, sym, true, ◌||◌, ◌∙◌, ◌∷◌, ◌≡◌}
use Rattle.std.specs.List.{AllByRecursion, list_all, list_any}
use Rattle.std.specs.Prelude.{if◌then◌else◌}
use Rattle.formula_core.proofs.Weakening.{first_true, second_true}
use Rattle.rule_table.specs.Parts.{is_review}
use Rattle.rule_table.specs.Rules.{IsRule}
use Rattle.rule_table.specs.declared.rule.Antecedent.{Antecedent}
use Rattle.rule_table.specs.declared.rule.Rule.{Rule}
use Rattle.sequent_core.proofs.Nodes.{applied_rule, closed-Leaf, closed-Node, reviewed-Node}
use Rattle.sequent_core.specs.PrivateChildren.{EachApplies}
use Rattle.sequent_core.specs.Trees.{Derives, IsFresh, Meets, extended, is_closed, is_reviewed}
use Rattle.sequent_core.specs.declared.sequent.Sequent.{Sequent}
use Rattle.sequent_core.specs.declared.tree.Tree.{Tree}
use Rattle.sequent_core.specs.declared.tree.Tree.TheFolds.{ind-Tree, map-Tree}
use Rattle.sequent_core.specs.declared.tree.Tree.TheOpen.{Leaf as LeafF, Node as NodeF, Tree-F}
use Rattle.sequent_core.specs.declared.tree.Tree.TheVariants.{Leaf, Node}
use Rattle.sequent_core.specs.declared.tree.Tree.TheViews.{roll-Tree, rolls-Leaf, rolls-Node}

neither : (a b : Bool) → (a || b) ≡ false → (a ≡ false) × (b ≡ false)
neither true b h = absurd cc
neither false b h = (refl, h)

neither_one : (a b : Bool) → (if a then true else b) ≡ false → (a ≡ false) × (b ≡ false)
neither_one true b h = absurd cc
neither_one false b h = (refl, h)

module _ (Good : Sequent → Type 0) where
  -- what an antecedent adds is new, and what it leaves is good
  abbrev pub IsLeftGood : Sequent → Antecedent → Type 0
  IsLeftGood s a = IsFresh s a × Good (extended s a)

  -- a sequent is good where a rule meets it and leaves good ones
  abbrev pub RuleKeeps : Rule → Type 0
  RuleKeeps r =
      (s : Sequent) → IsRule r → Meets r s → is_review r.kind ≡ false → AllByRecursion (IsLeftGood s) r.antecedents
      → Good s

  abbrev IsTold : Tree → Type 0
  IsTold tree = (s : Sequent) → Derives tree s → Good s

  children : (trees : List Tree) (ants : List Antecedent) (s : Sequent) → AllByRecursion IsTold trees
      → EachApplies trees ants s → list_all (λ closed. closed) (map is_closed trees) ≡ true
      → list_any (λ reviewed. reviewed) (map is_reviewed trees) ≡ false → AllByRecursion (IsLeftGood s) ants
  children [] [] s told each closed reviewed = tt
  children [] (a ∷ ants) s told each closed reviewed = absurd each
  children (t ∷ trees) [] s told each closed reviewed = absurd each
  children (t ∷ trees) (a ∷ ants) s told each closed reviewed =
      let none = neither (is_reviewed t) (list_any (λ reviewed. reviewed) (map is_reviewed trees)) reviewed in
      let all : Derives t (extended s a) =
      record { applies = each.1; closed = first_true (is_closed t) _ closed; unreviewed = none.0 } in (
        (each.0, told.0 (extended s a) all),
        children trees ants s told.1 each.2 (second_true (is_closed t) _ closed) none.1,
      )

  module _ (keeps : (r : Rule) → RuleKeeps r) where
    at_leaf : IsTold Leaf
    at_leaf s derives = let k : false ≡ true = sym closed-Leaf ∙ derives.closed in absurd cc

    at_rule : (r : Rule) (trees : List Tree) → AllByRecursion IsTold trees → IsTold (Node r trees)
    at_rule r trees told s derives =
        let fits = applied_rule r trees s derives.applies in
        let closed : list_all (λ closed. closed) (map is_closed trees) ≡ true = sym (closed-Node r trees)
        ∙ derives.closed in
        let reviewed = neither_one (is_review r.kind) (list_any (λ reviewed. reviewed) (map is_reviewed trees))
        (sym (reviewed-Node r trees) ∙ derives.unreviewed) in
        keeps r s fits.0 fits.1 reviewed.0 (children trees r.antecedents s told fits.2 closed reviewed.1)

    abbrev Told : Type 0
    Told = (t : Tree) × IsTold t

    each : (es : List Told) → AllByRecursion IsTold (map (λ e. e.0) es)
    each [] = tt
    each (e ∷ es) = (e.1, each es)

    step : (y : Tree-F Told) → IsTold (roll-Tree (map-Tree Told Tree (λ e. e.0) y))
    step LeafF = subst IsTold (sym rolls-Leaf) at_leaf
    step (NodeF r es) =
        subst IsTold (sym (rolls-Node r (map (λ e. e.0) es))) (at_rule r (map (λ e. e.0) es) (each es))

    -- what each rule keeps holds of what is derived
    pub derived : (tree : Tree) → IsTold tree
    derived = ind-Tree IsTold
        (λ x y is. let Q : Tree-F Tree → Type 0 = λ z. IsTold (roll-Tree z) in subst Q is (step y))
