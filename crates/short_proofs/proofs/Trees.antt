-- Short proofs, rule by rule.
use Rattle.std.proofs.Common.{◌≡◌, ◌∙◌, sym, ap, subst, refl, ℕ, ◌+◌, ◌≤◌, Bool, true, false, ◌&&◌, List, [], ◌∷◌, ◌++◌, append-nil, arith, map, sum, None, ◌||◌}
use Rattle.std.specs.List.{AllByRecursion, list_all, list_any}
use Rattle.std.specs.Prelude.{IsTrue, if◌then◌else◌}
use Rattle.std.proofs.lemmas.List.Sums.{sum_by-cons}
use Rattle.formula_core.specs.Env.{type_in}
use Rattle.rule_table.specs.declared.rule.Antecedent.{Antecedent}
use Rattle.rule_table.specs.declared.rule.Rule.{Rule}
use Rattle.rule_table.specs.Parts.{is_review}
use Rattle.rule_table.specs.Rules.{IsRule}
use Rattle.sequent_core.specs.declared.sequent.Sequent.{Sequent}
use Rattle.sequent_core.specs.declared.tree.Tree.{Tree}
use Rattle.sequent_core.specs.declared.tree.Tree.TheOpen.{Leaf as LeafF, Node as NodeF}
use Rattle.sequent_core.specs.declared.tree.Tree.TheVariants.{Node}
use Rattle.sequent_core.specs.declared.tree.Tree.TheViews.{rolls-Node}
use Rattle.sequent_core.specs.declared.tree.Tree.TheFolds.{fold-roll-Tree}
use Rattle.sequent_core.specs.PrivateChildren.{EachApplies}
use Rattle.sequent_core.specs.Trees.{extended, Meets, IsFresh, Applies, Derives, is_closed, is_reviewed, node_count, rule_count}
use Rattle.sequent_core.proofs.Nodes.{node_applies, closed-Node, reviewed-Node, node_count-Node, rule_count-Node}
use Rattle.short_proofs.specs.Short.{is_plain_tree, is_plain_step, takes_no_formula, IsShortProof}

plain-Node : (r : Rule) (trees : List Tree) → is_plain_tree (Node r trees) ≡ (takes_no_formula r.kind && list_all (λ plain. plain) (map is_plain_tree trees))
plain-Node r trees = ap is_plain_tree (sym (rolls-Node r trees)) ∙ fold-roll-Tree Bool is_plain_step (NodeF r trees)

sum_one : (x : ℕ) → sum (x ∷ []) ≡ x
sum_one x = let first = sum_by-cons (λ n. n) x [] in omega (arith, first)

-- a proof of so many rules
pub record IsProofOf (n : ℕ) (tree : Tree) (s : Sequent) : Type 0 where
  pub derives : Derives tree s
  pub nodes : node_count tree ≡ n
  pub rules : rule_count tree ≡ n
  pub plain : IsTrue (is_plain_tree tree)

pub is_short : (n : ℕ) (tree : Tree) (s : Sequent) → n ≤ 8 → IsProofOf n tree s → IsShortProof tree s
is_short n tree s le h = record { derives = h.derives; nodes = subst (λ k. k ≤ 8) (sym h.nodes) le; rules = subst (λ k. k ≤ 8) (sym h.rules) le; plain = h.plain }

-- a rule of the table that fits, is no review and takes no formula
pub record FitsPlainly (r : Rule) (s : Sequent) : Type 0 where
  pub rule : IsRule r
  pub meets : Meets r s
  pub unreviewed : is_review r.kind ≡ false
  pub plain : takes_no_formula r.kind ≡ true

-- a rule that leaves nothing
pub proof_alone : (r : Rule) (s : Sequent) → FitsPlainly r s → r.antecedents ≡ [] → IsProofOf 1 (Node r []) s
proof_alone r s h none = record {
  derives = record {
    applies = node_applies r [] s h.rule h.meets (subst (λ ants. EachApplies [] ants s) (sym none) tt);
    closed = closed-Node r [];
    unreviewed = reviewed-Node r [] ∙ ap (λ b. if b then true else false) h.unreviewed;
  };
  nodes = node_count-Node r [];
  rules = rule_count-Node r [];
  plain = plain-Node r [] ∙ ap (λ b. b && true) h.plain;
}

-- a rule that leaves one sequent, above a proof of it
pub proof_above : (r : Rule) (a : Antecedent) (tree : Tree) (s : Sequent) (n : ℕ) → FitsPlainly r s → r.antecedents ≡ a ∷ [] → a.idents ≡ []
    → IsProofOf n tree (extended s a) → IsProofOf (n + 1) (Node r (tree ∷ [])) s
proof_above r a tree s n h one none p =
    let fresh : IsFresh s a = subst (AllByRecursion (λ x. type_in s.env x.0 ≡ None)) (sym none) tt in
    record {
      derives = record {
        applies = node_applies r (tree ∷ []) s h.rule h.meets (subst (λ ants. EachApplies (tree ∷ []) ants s) (sym one) (fresh, p.derives.applies, tt));
        closed = closed-Node r (tree ∷ []) ∙ ap (λ b. b && true) p.derives.closed;
        unreviewed = reviewed-Node r (tree ∷ []) ∙ (λ i. if h.unreviewed i then true else (p.derives.unreviewed i || false));
      };
      nodes = node_count-Node r (tree ∷ []) ∙ ap (λ k. k + 1) (sum_one (node_count tree) ∙ p.nodes);
      rules = rule_count-Node r (tree ∷ []) ∙ ap (λ k. k + 1) (sum_one (rule_count tree) ∙ p.rules);
      plain = plain-Node r (tree ∷ []) ∙ (λ i. h.plain i && (p.plain i && true));
    }

-- what stays of a sequent below an antecedent without names
pub extended_env : (s : Sequent) (a : Antecedent) → a.idents ≡ [] → (extended s a).env ≡ s.env
extended_env s a e = ap (λ ids. s.env ++ ids) e ∙ append-nil s.env
