-- Proofs of so many rules, rule by rule.
use Rattle.std.proofs.Common.{◌≡◌, ◌∙◌, sym, ap, subst, ℕ, ◌+◌, true, false, ◌&&◌, ◌||◌, [], ◌∷◌, ◌++◌, append-nil, arith, sum, None}
use Rattle.std.specs.List.{AllByRecursion}
use Rattle.std.specs.Prelude.{if◌then◌else◌}
use Rattle.std.proofs.lemmas.List.Sums.{sum_by-cons}
use Rattle.formula_core.specs.Env.{type_in}
use Rattle.rule_table.specs.declared.rule.Antecedent.{Antecedent}
use Rattle.rule_table.specs.declared.rule.Rule.{Rule}
use Rattle.rule_table.specs.Parts.{is_review}
use Rattle.rule_table.specs.Rules.{IsRule}
use Rattle.sequent_core.specs.declared.sequent.Sequent.{Sequent}
use Rattle.sequent_core.specs.declared.tree.Tree.{Tree}
use Rattle.sequent_core.specs.declared.tree.Tree.TheVariants.{Node}
use Rattle.sequent_core.specs.PrivateChildren.{EachApplies}
use Rattle.sequent_core.specs.Trees.{extended, Meets, IsFresh, node_count, rule_count}
use Rattle.case_trees.specs.PrivateProofs.{IsProofOf}
use Rattle.sequent_core.proofs.Nodes.{node_applies, closed-Node, reviewed-Node, node_count-Node, rule_count-Node}

sum_one : (x : ℕ) → sum (x ∷ []) ≡ x
sum_one x = let first = sum_by-cons (λ n. n) x [] in omega (arith, first)

sum_two : (x y : ℕ) → sum (x ∷ y ∷ []) ≡ x + y
sum_two x y = let first = sum_by-cons (λ n. n) x (y ∷ []) in let second = sum_by-cons (λ n. n) y [] in omega (arith, first, second)

-- a rule of the table that fits, and is no review
pub record FitsAt (r : Rule) (s : Sequent) : Type 0 where
  pub rule : IsRule r
  pub meets : Meets r s
  pub unreviewed : is_review r.kind ≡ false

fresh : (a : Antecedent) (s : Sequent) → a.idents ≡ [] → IsFresh s a
fresh a s none = subst (AllByRecursion (λ x. type_in s.env x.0 ≡ None)) (sym none) tt

pub proof_alone : (r : Rule) (s : Sequent) → FitsAt r s → r.antecedents ≡ [] → IsProofOf 1 (Node r []) s
proof_alone r s h none = record {
  derives = record {
    applies = node_applies r [] s h.rule h.meets (subst (λ ants. EachApplies [] ants s) (sym none) tt);
    closed = closed-Node r [];
    unreviewed = reviewed-Node r [] ∙ ap (λ b. if b then true else false) h.unreviewed;
  };
  nodes = node_count-Node r [];
  rules = rule_count-Node r [];
}

pub proof_above : (r : Rule) (a : Antecedent) (tree : Tree) (s : Sequent) (n : ℕ) → FitsAt r s → r.antecedents ≡ a ∷ [] → a.idents ≡ []
    → IsProofOf n tree (extended s a) → IsProofOf (n + 1) (Node r (tree ∷ [])) s
proof_above r a tree s n h one none p = record {
  derives = record {
    applies = node_applies r (tree ∷ []) s h.rule h.meets (subst (λ ants. EachApplies (tree ∷ []) ants s) (sym one) (fresh a s none, p.derives.applies, tt));
    closed = closed-Node r (tree ∷ []) ∙ ap (λ b. b && true) p.derives.closed;
    unreviewed = reviewed-Node r (tree ∷ []) ∙ (λ i. if h.unreviewed i then true else (p.derives.unreviewed i || false));
  };
  nodes = node_count-Node r (tree ∷ []) ∙ ap (λ k. k + 1) (sum_one (node_count tree) ∙ p.nodes);
  rules = rule_count-Node r (tree ∷ []) ∙ ap (λ k. k + 1) (sum_one (rule_count tree) ∙ p.rules);
}

pub proof_split : (r : Rule) (a b : Antecedent) (t u : Tree) (s : Sequent) (n m : ℕ) → FitsAt r s → r.antecedents ≡ a ∷ b ∷ [] → a.idents ≡ [] → b.idents ≡ []
    → IsProofOf n t (extended s a) → IsProofOf m u (extended s b) → IsProofOf (n + m + 1) (Node r (t ∷ u ∷ [])) s
proof_split r a b t u s n m h two none bare p q = record {
  derives = record {
    applies = node_applies r (t ∷ u ∷ []) s h.rule h.meets
        (subst (λ ants. EachApplies (t ∷ u ∷ []) ants s) (sym two) (fresh a s none, p.derives.applies, (fresh b s bare, q.derives.applies, tt)));
    closed = closed-Node r (t ∷ u ∷ []) ∙ (λ i. p.derives.closed i && (q.derives.closed i && true));
    unreviewed = reviewed-Node r (t ∷ u ∷ []) ∙ (λ i. if h.unreviewed i then true else (p.derives.unreviewed i || (q.derives.unreviewed i || false)));
  };
  nodes = node_count-Node r (t ∷ u ∷ []) ∙ ap (λ k. k + 1) (sum_two (node_count t) (node_count u) ∙ (λ i. p.nodes i + q.nodes i));
  rules = rule_count-Node r (t ∷ u ∷ []) ∙ ap (λ k. k + 1) (sum_two (rule_count t) (rule_count u) ∙ (λ i. p.rules i + q.rules i));
}

pub extended_env : (s : Sequent) (a : Antecedent) → a.idents ≡ [] → (extended s a).env ≡ s.env
extended_env s a e = ap (λ ids. s.env ++ ids) e ∙ append-nil s.env
