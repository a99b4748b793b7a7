-- What only private contracts cite.
use Rattle.std.specs.Prelude.{◌≡◌, ◌≤◌, ◌<◌, ◌+◌, ◌⊎◌, ⊤, ℕ, List, Option, Some, None, map, sum}
use Rattle.proof_steps.specs.Places.{with_leaves}
use Rattle.rule_making.specs.declared.fault.RuleFault.{RuleFault}
use Rattle.rule_making.specs.declared.fault.RuleFault.TheVariants.{OutOfMemory}
use Rattle.rule_table.specs.declared.rule.Antecedent.{Antecedent}
use Rattle.rule_table.specs.declared.rule.Rule.{Rule}
use Rattle.sequent_core.specs.declared.prover.Attempt.{Attempt}
use Rattle.sequent_core.specs.declared.prover.Attempt.TheVariants.{Found, NoProof, NoMemory}
use Rattle.sequent_core.specs.declared.sequent.Sequent.{Sequent}
use Rattle.sequent_core.specs.declared.tree.Tree.{Tree}
use Rattle.sequent_core.specs.declared.tree.Tree.TheVariants.{Leaf}
use Rattle.sequent_core.specs.PrivateChildren.{EachApplies}
use Rattle.sequent_core.specs.Trees.{Applies, node_count, rule_count}
use Rattle.proof_strategies.specs.declared.room.Room.{Room}
use Rattle.proof_strategies.specs.declared.room.Times.{Times}
use Rattle.proof_strategies.specs.declared.room.Times.TheVariants.{Once}
use Rattle.proof_strategies.specs.Growth.{EachGrowsInto, GrowsInto, beside, used_up, whole}

-- the rule with a leaf for each sequent that it leaves, unless these are too many
abbrev pub IsAlone : Rule → Attempt → Type 0
IsAlone r (Found tree) = (tree ≡ with_leaves r) × (node_count (with_leaves r) ≤ 2048)
IsAlone r NoProof = 2048 < node_count (with_leaves r)
IsAlone r NoMemory = ⊤

-- why no rule is made, as an attempt: no proof, unless memory ran out
abbrev pub TellsRuleFault : RuleFault → Attempt → Type 0
TellsRuleFault fault (Found tree) = ⊥
TellsRuleFault fault NoProof = fault ≡ OutOfMemory → ⊥
TellsRuleFault fault NoMemory = ⊤

-- a tree within the budget has grown once
abbrev pub ContinuesWith : (Sequent → ℕ → Attempt → Type 0) → ℕ → Tree → Sequent → Tree → Type 0
ContinuesWith second budget start s tree =
    (left : Room) × GrowsInto second Once start s (beside start (whole budget)) tree left

-- what comes of a tree that is found: it is put in, or it is a leaf, or too large
abbrev pub IsPlacedWithin : Tree → Room → Option Tree → Room → Type 0
IsPlacedWithin tree before (Some new) after =
    (new ≡ tree) × (1 ≤ rule_count tree) × (node_count tree ≤ before.nodes + 1) × (after ≡ beside tree before)
IsPlacedWithin tree before None after =
    ((tree ≡ Leaf) × (after ≡ before)) ⊎ ((before.nodes + 1 < node_count tree) × (after ≡ used_up before))

-- what a strategy gives at a leaf, where it may take its place
pub record IsPut (gives : Sequent → ℕ → Attempt → Type 0) (s : Sequent) (before : Room) (tree : Tree) (after : Room) : Type 0 where
  pub some : 1 ≤ before.rules
  pub given : gives s before.rules (Found tree)
  pub applies : Applies tree s
  pub within : rule_count tree ≤ before.rules
  pub small : node_count tree ≤ 2048
  pub gained : 1 ≤ rule_count tree
  pub fits : node_count tree ≤ before.nodes + 1
  pub room : after ≡ beside tree before

-- a leaf that stays
pub record IsLeft (gives : Sequent → ℕ → Attempt → Type 0) (s : Sequent) (before after : Room) : Type 0 where
  pub grows : (times : Times) → GrowsInto gives times Leaf s before Leaf after
  pub nodes : after.nodes ≡ before.nodes
  pub less : after.rules ≤ before.rules

-- a leaf at which a strategy was tried: what is put in, or that it stays
abbrev pub WasTried : (Sequent → ℕ → Attempt → Type 0) → Sequent → Room → Option Tree → Room → Type 0
WasTried gives s before (Some tree) after = IsPut gives s before tree after
WasTried gives s before None after = IsLeft gives s before after

module _ (gives : Sequent → ℕ → Attempt → Type 0) (times : Times) where
  -- a tree has grown into one that applies, within the room
  pub record HasGrown (old : Tree) (s : Sequent) (before : Room) (new : Tree) (after : Room) : Type 0 where
    pub grows : GrowsInto gives times old s before new after
    pub applies : Applies new s
    pub rules : rule_count new + after.rules ≤ rule_count old + before.rules
    pub nodes : node_count new + after.nodes ≡ node_count old + before.nodes
    pub less : after.rules ≤ before.rules

  -- and so have the trees below antecedents
  pub record HaveGrown (old : List Tree) (antecedents : List Antecedent) (s : Sequent) (before : Room) (new : List Tree) (after : Room) : Type 0 where
    pub grow : EachGrowsInto gives times old antecedents s before new after
    pub apply : EachApplies new antecedents s
    pub rules : sum (map rule_count new) + after.rules ≤ sum (map rule_count old) + before.rules
    pub nodes : sum (map node_count new) + after.nodes ≡ sum (map node_count old) + before.nodes
    pub less : after.rules ≤ before.rules
