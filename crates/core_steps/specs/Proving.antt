-- A user's work on the proof of an obligation: steps, prunes, and what is shown of it.
use Rattle.std.specs.Prelude.{◌≡◌, ◌≢◌, ◌⊎◌, ℕ, ◌+◌, ◌<◌, List, [], ◌∷◌, ◌++◌, Option, Some, None, Result, Ok, Err, MatchOption, slice_get}
use Rattle.std.specs.Option.{option_map}
use Rattle.std.specs.FinMap.{FinMap, get}
use Rattle.formula_core.specs.declared.Formula.{Formula}
use Rattle.sequent_core.specs.declared.Sequent.{Sequent}
use Rattle.sequent_core.specs.declared.Obligation.{Obligation}
use Rattle.sequent_core.specs.declared.Hint.{Hint}
use Rattle.rule_table.specs.declared.Rule.{Rule}
use Rattle.rule_table.specs.declared.Antecedent.{Antecedent}
use Rattle.rule_table.specs.Kinds.{kind_number}
use Rattle.sequent_core.specs.declared.Tree.{Tree}
use Rattle.sequent_core.specs.declared.Tree.TheVariants.{Leaf}
use Rattle.sequent_core.specs.declared.tree.Tree.TheOpen as shape
use Rattle.sequent_core.specs.declared.tree.Tree.TheFolds.{fold-Tree}
use Rattle.sequent_core.specs.Trees.{Applies, goal_or, node_count}
use Rattle.proof_steps.specs.Places.{leaf_at, rule_at, grown, put}
use Rattle.rule_making.specs.declared.RuleFault.{RuleFault}
use Rattle.rule_making.specs.declared.RuleFault.TheVariants.{OutOfMemory}
use Rattle.rule_making.specs.Make.{Answers}
use Rattle.proof_entries.specs.declared.Origin.TheVariants.{User}
use Rattle.proof_entries.specs.declared.Proof.{Proof}
use Rattle.proof_entries.specs.declared.Entry.TheVariants.{SetProof}
use Rattle.readings_core.specs.declared.Follows.{Follows}
use Rattle.readings_core.specs.Follows.{IsFollowsAnswer}
use Rattle.core_steps.specs.Durable.{text_cmp}
use Rattle.core_steps.specs.declared.events.Status.{Status}
use Rattle.core_steps.specs.declared.events.NodeLine.{NodeLine}
use Rattle.core_steps.specs.declared.events.Reply.TheVariants.{NoObligation, Broken, NoLeaf, NoNode, Rule as RuleReply, TreeFull, Now, Shown, Nodes, Followed}
use Rattle.core_steps.specs.Status.{IsStatus, IsTreeStatus}
use Rattle.core_steps.specs.Table.{IsPresent}
use Rattle.core_steps.specs.State.{State}
use Rattle.core_steps.specs.Outcomes.{StepOutcome, told, entering, Where, Unless}

-- what holds of the present sequent of the name, or it is told that there is no such obligation
abbrev pub OnObligation : State → List Obligation → List ℕ → (Sequent → Type 0) → StepOutcome → Type 0
OnObligation s table name X x =
    (IsPresent table name None × (x ≡ told s (NoObligation name)))
    ⊎ ((sequent : Sequent) × IsPresent table name (Some sequent) × X sequent)

abbrev pub tree_in : Option Proof → Tree
tree_in None = Leaf
tree_in (Some proof) = proof.tree

-- the tree that is stored under the name, or a bare leaf
abbrev pub stored_tree : FinMap text_cmp Proof → List ℕ → Tree
stored_tree proofs name = tree_in (get proofs name)

-- the user's tree is stored, and its status is told
abbrev pub Keeps : State → List ℕ → Sequent → Tree → StepOutcome → Type 0
Keeps s name sequent tree x =
    (status : Status) × IsTreeStatus tree sequent status
    × (x ≡ entering s (Now name status) (SetProof name (record { tree = tree; origin = User })))

-- the rule is put at the leaf, unless none was made, or the tree would have more than 2,048 nodes
abbrev pub Puts : State → List ℕ → Sequent → Tree → List ℕ → Result Rule RuleFault → StepOutcome → Type 0
Puts s name sequent tree path (Err fault) x = (fault ≢ OutOfMemory) × (x ≡ told s (RuleReply fault))
Puts s name sequent tree path (Ok rule) x =
    Where (2048 < node_count (grown rule path tree)) (x ≡ told s TreeFull) (Keeps s name sequent (grown rule path tree) x)

-- the rule that the hint names for the sequent at the leaf is put there, unless none is made
abbrev pub MakesAt : State → List ℕ → List ℕ → ℕ → Hint → Sequent → Tree → Sequent → StepOutcome → Type 0
MakesAt s name path kind hint sequent tree leaf x =
    (made : Result Rule RuleFault) × Answers kind hint leaf made × Puts s name sequent tree path made x

-- a step at the leaf of the path, unless there is none
abbrev pub StepsIn : State → List ℕ → List ℕ → ℕ → Hint → Sequent → Tree → StepOutcome → Type 0
StepsIn s name path kind hint sequent tree x =
    MatchOption (leaf_at path tree sequent) (x ≡ told s NoLeaf) (λ leaf. MakesAt s name path kind hint sequent tree leaf x)

-- a step in the stored tree, unless it is broken
abbrev pub StepsAt : State → List ℕ → List ℕ → ℕ → Hint → Sequent → StepOutcome → Type 0
StepsAt s name path kind hint sequent x =
    let tree = stored_tree s.durable.proofs name in
    Unless (Applies tree sequent) (x ≡ told s Broken) (StepsIn s name path kind hint sequent tree x)

-- the rule at the path gives way to a leaf, unless none stands there
abbrev pub PrunesAt : State → List ℕ → List ℕ → Sequent → StepOutcome → Type 0
PrunesAt s name path sequent x =
    let tree = stored_tree s.durable.proofs name in
    MatchOption (rule_at path tree) (x ≡ told s NoNode) (λ rule. Keeps s name sequent (put path Leaf tree) x)

-- the status is told with the sequent
abbrev pub ShowsOne : State → List ℕ → Sequent → Sequent → StepOutcome → Type 0
ShowsOne s name sequent shown x =
    (status : Status) × IsStatus (get s.durable.proofs name) sequent status × (x ≡ told s (Shown name status shown))

-- the sequent of the obligation, or that at a leaf of its tree
abbrev pub ShowsAt : State → List ℕ → Option (List ℕ) → Sequent → StepOutcome → Type 0
ShowsAt s name None sequent x = ShowsOne s name sequent sequent x
ShowsAt s name (Some path) sequent x =
    Unless (Applies (stored_tree s.durable.proofs name) sequent) (x ≡ told s NoLeaf)
    (MatchOption (leaf_at path (stored_tree s.durable.proofs name) sequent) (x ≡ told s NoLeaf) (λ leaf. ShowsOne s name sequent leaf x))

-- the goal that an antecedent leaves, if there is one
abbrev pub goal_of : Option Antecedent → Option Formula → Option Formula
goal_of None goal = None
goal_of (Some a) goal = option_map (goal_or a.goal) goal

-- the lines of the children from a number on, each with the goal that its antecedent leaves
abbrev pub lines_below : ℕ → List (List ℕ → Option Formula → List NodeLine) → List Antecedent → List ℕ → Option Formula → List NodeLine
lines_below at [] antecedents path goal = []
lines_below at (child ∷ children) antecedents path goal =
    child (path ++ at ∷ []) (goal_of (slice_get antecedents at) goal) ++ lines_below (at + 1) children antecedents path goal

abbrev pub lines_step : shape.Tree-F (List ℕ → Option Formula → List NodeLine) → List ℕ → Option Formula → List NodeLine
lines_step shape.Leaf path goal = record { path = path; kind = None; goal = goal } ∷ []
lines_step (shape.Node r children) path goal =
    record { path = path; kind = Some (kind_number r.kind); goal = None } ∷ lines_below 0 children r.antecedents path goal

-- The nodes of a tree with their paths, parents first: a rule with its number, a leaf with its goal, if the goal at the
-- root is given.
abbrev pub node_lines : Tree → List ℕ → Option Formula → List NodeLine
node_lines = fold-Tree (List ℕ → Option Formula → List NodeLine) lines_step

-- the nodes of the stored tree, whose leaves have goals where it applies
abbrev pub ShowsTree : State → List ℕ → Sequent → StepOutcome → Type 0
ShowsTree s name sequent x =
    let tree = stored_tree s.durable.proofs name in
    Where (Applies tree sequent) (x ≡ told s (Nodes (node_lines tree [] (Some sequent.goal)))) (x ≡ told s (Nodes (node_lines tree [] None)))

-- whether the sequent follows by the stored tree
abbrev pub ShowsFollows : State → List ℕ → Sequent → StepOutcome → Type 0
ShowsFollows s name sequent x =
    (answer : Follows) × IsFollowsAnswer (stored_tree s.durable.proofs name) sequent answer × (x ≡ told s (Followed name answer))
