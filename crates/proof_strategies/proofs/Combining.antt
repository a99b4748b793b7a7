-- What strategies give that run others.
use Rattle.std.proofs.Common.{◌≡◌, ap, subst, ℕ, ◌≤◌, arith}
use Rattle.sequent_core.specs.declared.prover.Attempt.{Attempt}
use Rattle.sequent_core.specs.declared.prover.Attempt.TheVariants.{Found, NoProof, NoMemory}
use Rattle.sequent_core.specs.declared.sequent.Sequent.{Sequent}
use Rattle.sequent_core.specs.declared.tree.Tree.{Tree}
use Rattle.sequent_core.specs.declared.tree.Tree.TheVariants.{Leaf}
use Rattle.sequent_core.specs.Trees.{node_count, rule_count}
use Rattle.sequent_core.proofs.Nodes.{node_count-Leaf, rule_count-Leaf}
use Rattle.proof_strategies.specs.declared.room.Room.{Room}
use Rattle.proof_strategies.specs.declared.room.Times.TheVariants.{Once, Again}
use Rattle.proof_strategies.specs.Growth.{GrowsInto, beside, whole}
use Rattle.proof_strategies.specs.Private.{ContinuesWith, HasGrown}
use Rattle.proof_strategies.specs.Strategies.{GivesThen, IfFound}

module _ (first second : Sequent → ℕ → Attempt → Type 0) (s : Sequent) (budget : ℕ) where
  pub gives_then : (start : Tree) (x : Attempt) → first s budget (Found start) → (x ≡ NoProof → ⊥) → IfFound x (ContinuesWith second budget start s) → GivesThen first second s budget x
  gives_then start (Found tree) given found goes = (start, goes.0, given, goes.1)
  gives_then start NoProof given found goes = absurd (found (cc))
  gives_then start NoMemory given found goes = tt

-- a tree that has grown in the room beside the first one
module _ (second : Sequent → ℕ → Attempt → Type 0) (s : Sequent) (budget : ℕ) (start tree : Tree) (room left : Room) (is : room ≡ beside start (whole budget)) where
  pub few_rules : budget ≤ 2000 → room.rules ≤ 2000
  few_rules most = omega (arith, ap (λ r. r.rules) is, most)

  module _ (h : HasGrown second Once start s room tree left) where
    pub continues : ContinuesWith second budget start s tree
    continues = (left, subst (λ r. GrowsInto second Once start s r tree left) is h.grows)

    pub continued_rules : rule_count start ≤ budget → rule_count tree ≤ budget
    continued_rules le = omega (arith, ap (λ r. r.rules) is, h.rules, le)

    pub continued_nodes : node_count start ≤ 2048 → node_count tree ≤ 2048
    continued_nodes le = omega (arith, ap (λ r. r.nodes) is, h.nodes, le)

-- a leaf that has grown in the whole room
module _ (body : Sequent → ℕ → Attempt → Type 0) (s : Sequent) (budget : ℕ) (tree : Tree) (left : Room) (h : HasGrown body Again Leaf s (whole budget) tree left) where
  pub repeated_rules : rule_count tree ≤ budget
  repeated_rules = omega (arith, h.rules, rule_count-Leaf)

  pub repeated_nodes : node_count tree ≤ 2048
  repeated_nodes = omega (arith, h.nodes, node_count-Leaf)
