-- When a proof tree applies to a sequent, and when it derives it.
use Rattle.std.specs.Prelude.{◌≡◌, ◌+◌, ◌-◌, ◌^◌, min, ℕ, Bool, true, false, List, [], ◌∷◌, ◌++◌, Option, Some, None, IfSome, IsTrue, Contains, length, sum, if◌then◌else◌, ⊤}
use Rattle.std.specs.List.{AllByRecursion, list_all, list_any}
use Rattle.formula_core.specs.declared.Formula.{Formula}
use Rattle.formula_core.specs.Env.{type_in}
use Rattle.sequent_core.specs.declared.sequent.Sequent.{Sequent}
use Rattle.rule_table.specs.declared.rule.Rule.{Rule}
use Rattle.rule_table.specs.declared.rule.Antecedent.{Antecedent}
use Rattle.sequent_core.specs.declared.tally.Tally.{Tally}
use Rattle.sequent_core.specs.declared.tree.Tree.{Tree}
use Rattle.sequent_core.specs.declared.tree.Tree.TheOpen.{Tree-F, Leaf, Node}
use Rattle.sequent_core.specs.declared.tree.Tree.TheFolds.{fold-Tree}
use Rattle.rule_table.specs.Parts.{is_review}
use Rattle.rule_table.specs.Rules.{IsRule}
use Rattle.formula_core.specs.Typed.{Stands}

-- the new goal, or the old one where there is none
abbrev pub goal_or : Option Formula → Formula → Formula
goal_or None goal = goal
goal_or (Some new) goal = new

-- the sequent with an antecedent's identifiers and hypotheses added at the end, and its goal, if it has one
abbrev pub extended : Sequent → Antecedent → Sequent
extended s a = record { env = s.env ++ a.idents; hyps = s.hyps ++ a.hyps; goal = goal_or a.goal s.goal }

-- the needed goal is the goal, the needed hypotheses are hypotheses, and the used names stand in the environment
pub record Meets (r : Rule) (s : Sequent) : Type 0 where
  pub goal : IfSome r.needed_goal (λ g. g ≡ s.goal)
  pub hyps : AllByRecursion (Contains s.hyps) r.needed_hyps
  pub used : AllByRecursion (Stands s.env) r.used

-- none of the antecedent's identifiers is in the environment
abbrev pub IsFresh : Sequent → Antecedent → Type 0
IsFresh s a = AllByRecursion (λ x. type_in s.env x.0 ≡ None) a.idents

-- a rule in a tree, the number of its children, and the sequent to which the way from the root leads
pub record NodeAt : Type 0 where
  pub rule : Rule
  pub children : ℕ
  pub sequent : Sequent

-- the nodes below a sequent: each child with its antecedent
abbrev pub nodes_below : Sequent → List (Sequent → List NodeAt) → List Antecedent → List NodeAt
nodes_below s [] antecedents = []
nodes_below s (child ∷ children) [] = []
nodes_below s (child ∷ children) (a ∷ antecedents) = child (extended s a) ++ nodes_below s children antecedents

abbrev pub nodes_step : Tree-F (Sequent → List NodeAt) → Sequent → List NodeAt
nodes_step Leaf s = []
nodes_step (Node r children) s = record { rule = r; children = length children; sequent = s } ∷ nodes_below s children r.antecedents

-- the rules of a tree, each with the sequent at its place
abbrev pub nodes : Tree → Sequent → List NodeAt
nodes = fold-Tree (Sequent → List NodeAt) nodes_step

-- it is a rule, the sequent at its place meets it, it has a child for each antecedent, and what these add is fresh
pub record Fits (n : NodeAt) : Type 0 where
  pub rule : IsRule n.rule
  pub meets : Meets n.rule n.sequent
  pub children : n.children ≡ length n.rule.antecedents
  pub fresh : AllByRecursion (IsFresh n.sequent) n.rule.antecedents

-- each rule of the tree fits at its place
abbrev pub Applies : Tree → Sequent → Type 0
Applies tree s = AllByRecursion Fits (nodes tree s)

abbrev pub is_closed_step : Tree-F Bool → Bool
is_closed_step Leaf = false
is_closed_step (Node r children) = list_all (λ closed. closed) children

-- whether no leaf is left
abbrev pub is_closed : Tree → Bool
is_closed = fold-Tree Bool is_closed_step

abbrev pub is_reviewed_step : Tree-F Bool → Bool
is_reviewed_step Leaf = false
is_reviewed_step (Node r children) = if is_review r.kind then true else list_any (λ reviewed. reviewed) children

-- whether a review stands in the tree
abbrev pub is_reviewed : Tree → Bool
is_reviewed = fold-Tree Bool is_reviewed_step

-- the tree applies, no leaf is left, and no review stands in it
pub record Derives (tree : Tree) (s : Sequent) : Type 0 where
  pub applies : Applies tree s
  pub closed : IsTrue (is_closed tree)
  pub unreviewed : is_reviewed tree ≡ false

abbrev pub node_count_step : Tree-F ℕ → ℕ
node_count_step Leaf = 1
node_count_step (Node r children) = sum children + 1

-- the number of nodes, leaves counted
abbrev pub node_count : Tree → ℕ
node_count = fold-Tree ℕ node_count_step

abbrev pub rule_count_step : Tree-F ℕ → ℕ
rule_count_step Leaf = 0
rule_count_step (Node r children) = sum children + 1

-- the number of nodes that are rules
abbrev pub rule_count : Tree → ℕ
rule_count = fold-Tree ℕ rule_count_step

-- what one walk through the tree tells of it, the numbers up to the greatest of 64 bits
pub record IsTallyOf (tree : Tree) (t : Tally) : Type 0 where
  pub nodes : t.nodes ≡ min (node_count tree) (2 ^ 64 - 1)
  pub rules : t.rules ≡ min (rule_count tree) (2 ^ 64 - 1)
  pub closed : t.closed ≡ is_closed tree
  pub reviewed : t.reviewed ≡ is_reviewed tree

-- the sequent to which the way leads
abbrev pub at_end : List Antecedent → Sequent → Sequent
at_end [] s = s
at_end (a ∷ above) s = extended (at_end above s) a

-- the identifiers of each antecedent are new where it is added
abbrev pub AreFresh : List Antecedent → Sequent → Type 0
AreFresh [] s = ⊤
AreFresh (a ∷ above) s = IsFresh (at_end above s) a × AreFresh above s
