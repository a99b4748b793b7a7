-- One rule with its leaves.
use Rattle.std.proofs.Common.{◌≡◌, ◌∙◌, sym, ap, subst, refl, ℕ, ◌+◌, ◌≤◌, ◌<◌, List, [], ◌∷◌, length, map, sum, inl, inr, arith}
use Rattle.std.specs.List.{AllByRecursion}
use Rattle.std.specs.Prelude.{Result, Ok, Err}
use Rattle.std.proofs.lemmas.List.Sums.{sum_by-cons}
use Rattle.proof_steps.specs.Places.{with_leaves}
use Rattle.rule_making.specs.declared.fault.RuleFault.{RuleFault}
use Rattle.rule_making.specs.Laws.{AnswersAreOne}
use Rattle.rule_making.specs.Make.{Answers, FitsAt}
use Rattle.rule_table.specs.declared.rule.Antecedent.{Antecedent}
use Rattle.rule_table.specs.declared.rule.Rule.{Rule}
use Rattle.sequent_core.specs.declared.hint.Hint.{Hint}
use Rattle.sequent_core.specs.declared.prover.Attempt.{Attempt}
use Rattle.sequent_core.specs.declared.prover.Attempt.TheVariants.{Found, NoProof, NoMemory}
use Rattle.sequent_core.specs.declared.sequent.Sequent.{Sequent}
use Rattle.sequent_core.specs.declared.tree.Tree.{Tree}
use Rattle.sequent_core.specs.declared.tree.Tree.TheVariants.{Leaf}
use Rattle.sequent_core.specs.PrivateChildren.{EachApplies}
use Rattle.sequent_core.specs.Trees.{extended, Applies, IsFresh, node_count, rule_count}
use Rattle.sequent_core.proofs.Nodes.{leaf_applies, node_applies, node_count-Leaf, node_count-Node, rule_count-Leaf, rule_count-Node}
use Rattle.proof_strategies.specs.Private.{IsAlone, TellsRuleFault}
use Rattle.proof_strategies.specs.Strategies.{GivesOne, IfFound, IsRuleRefused}

sum_cons : (x : ℕ) (xs : List ℕ) → sum (x ∷ xs) ≡ x + sum xs
sum_cons x xs = sum_by-cons (λ n. n) x xs

leaves_apply : (ants : List Antecedent) (s : Sequent) → AllByRecursion (IsFresh s) ants → EachApplies (map (λ a. Leaf) ants) ants s
leaves_apply [] s f = tt
leaves_apply (a ∷ ants) s f = (f.0, leaf_applies (extended s a), leaves_apply ants s f.1)

leaf_nodes : (ants : List Antecedent) → sum (map node_count (map (λ a. Leaf) ants)) ≡ length ants
leaf_nodes [] = refl
leaf_nodes (a ∷ ants) =
    let more = sum_cons (node_count Leaf) (map node_count (map (λ a. Leaf) ants)) in
    let rest = leaf_nodes ants in
    omega (arith, more, rest, node_count-Leaf)

leaf_rules : (ants : List Antecedent) → sum (map rule_count (map (λ a. Leaf) ants)) ≡ 0
leaf_rules [] = refl
leaf_rules (a ∷ ants) =
    let more = sum_cons (rule_count Leaf) (map rule_count (map (λ a. Leaf) ants)) in
    let rest = leaf_rules ants in
    omega (arith, more, rest, rule_count-Leaf)

rule_or : Rule → Result Rule RuleFault → Rule
rule_or r (Ok q) = q
rule_or r (Err f) = r

module _ (r : Rule) where
  pub nodes_alone : node_count (with_leaves r) ≡ length r.antecedents + 1
  nodes_alone = node_count-Node r (map (λ a. Leaf) r.antecedents) ∙ ap (λ n. n + 1) (leaf_nodes r.antecedents)

  rules_alone : rule_count (with_leaves r) ≡ 1
  rules_alone = rule_count-Node r (map (λ a. Leaf) r.antecedents) ∙ ap (λ n. n + 1) (leaf_rules r.antecedents)

  -- what a rule gives alone applies, and has one rule and not too many nodes
  pub alone_applies : (s : Sequent) (x : Attempt) → FitsAt r s → IsAlone r x → IfFound x (λ tree. Applies tree s)
  alone_applies s (Found tree) fits is =
      subst (λ t. Applies t s) (sym is.0) (node_applies r (map (λ a. Leaf) r.antecedents) s fits.rule fits.meets (leaves_apply r.antecedents s fits.fresh))
  alone_applies s NoProof fits is = tt
  alone_applies s NoMemory fits is = tt

  pub alone_rules : (budget : ℕ) (x : Attempt) → 1 ≤ budget → IsAlone r x → IfFound x (λ tree. rule_count tree ≤ budget)
  alone_rules budget (Found tree) least is = subst (λ t. rule_count t ≤ budget) (sym is.0) (omega (arith, rules_alone, least))
  alone_rules budget NoProof least is = tt
  alone_rules budget NoMemory least is = tt

  pub alone_nodes : (x : Attempt) → IsAlone r x → IfFound x (λ tree. node_count tree ≤ 2048)
  alone_nodes (Found tree) is = subst (λ t. node_count t ≤ 2048) (sym is.0) is.1
  alone_nodes NoProof is = tt
  alone_nodes NoMemory is = tt

  pub alone_refuses : (kind : ℕ) (hint : Hint) (s : Sequent) (x : Attempt) → Answers kind hint s (Ok r) → IsAlone r x → x ≡ NoProof → IsRuleRefused kind hint s
  alone_refuses kind hint s (Found tree) made is e = cc
  alone_refuses kind hint s NoProof made many e = inr (r, made, many)
  alone_refuses kind hint s NoMemory made is e = cc

  module _ (one : AnswersAreOne) (kind : ℕ) (hint : Hint) (s : Sequent) (made : Answers kind hint s (Ok r)) where
    not_refused : node_count (with_leaves r) ≤ 2048 → IsRuleRefused kind hint s → ⊥
    unfolding rule_or
    not_refused few (inl (f, other, why)) = let same : Ok r ≡ Err f = one kind hint s (Ok r) (Err f) (λ e. cc) (λ e. other (cc)) made why in cc
    not_refused few (inr (q, makes, many)) =
        let is : r ≡ q = ap (rule_or r) (one kind hint s (Ok r) (Ok q) (λ e. cc) (λ e. cc) made makes) in
        let far : 2048 < node_count (with_leaves r) = subst (λ x. 2048 < node_count (with_leaves x)) (sym is) many in
        omega (arith, far, few)

    pub gives_one : (x : Attempt) → IsAlone r x → GivesOne kind hint s x
    gives_one (Found tree) is = (not_refused is.1, r, made, is.0)
    gives_one NoProof many = inr (r, made, many)
    gives_one NoMemory is = tt

-- why no rule is made, as an attempt
module _ (fault : RuleFault) (kind : ℕ) (hint : Hint) (s : Sequent) (why : Answers kind hint s (Err fault)) where
  pub gives_fault : (x : Attempt) → TellsRuleFault fault x → GivesOne kind hint s x
  gives_fault (Found tree) tells = absurd tells
  gives_fault NoProof other = inl (fault, other, why)
  gives_fault NoMemory tells = tt

  pub fault_refuses : (x : Attempt) → TellsRuleFault fault x → x ≡ NoProof → IsRuleRefused kind hint s
  fault_refuses (Found tree) tells e = absurd tells
  fault_refuses NoProof other e = inl (fault, other, why)
  fault_refuses NoMemory tells e = cc

pub finds_none : (fault : RuleFault) (P : Tree → Type 0) (x : Attempt) → TellsRuleFault fault x → IfFound x P
finds_none fault P (Found tree) tells = absurd tells
finds_none fault P NoProof tells = tt
finds_none fault P NoMemory tells = tt
