-- How a tree grows: a strategy is run at its leaves, from left to right, and what it gives takes their place.
use Rattle.std.specs.Prelude.{◌≡◌, ◌≤◌, ◌<◌, ◌+◌, ◌-◌, ℕ, List, [], ◌∷◌}
use Rattle.rule_table.specs.declared.rule.Antecedent.{Antecedent}
use Rattle.rule_table.specs.declared.rule.Rule.{Rule}
use Rattle.sequent_core.specs.declared.prover.Attempt.{Attempt}
use Rattle.sequent_core.specs.declared.prover.Attempt.TheVariants.{Found, NoProof}
use Rattle.sequent_core.specs.declared.sequent.Sequent.{Sequent}
use Rattle.sequent_core.specs.declared.tree.Tree.{Tree}
use Rattle.sequent_core.specs.declared.tree.Tree.TheVariants.{Leaf, Node}
use Rattle.sequent_core.specs.Trees.{extended, node_count, rule_count}
use Rattle.proof_strategies.specs.declared.room.Room.{Room}
use Rattle.proof_strategies.specs.declared.room.Times.{Times}
use Rattle.proof_strategies.specs.declared.room.Times.TheVariants.{Once, Again}

-- the room of a leaf alone: so many rules, and 2,047 nodes beside it
abbrev pub whole : ℕ → Room
whole budget = record { rules = budget; nodes = 2047 }

-- the room that is left when a tree has taken the place of a leaf
abbrev pub beside : Tree → Room → Room
beside tree room = record { rules = room.rules - rule_count tree; nodes = room.nodes + 1 - node_count tree }

-- the room that is left when a tree has too many nodes: for no rule
abbrev pub used_up : Room → Room
used_up room = record { rules = 0; nodes = room.nodes }

module _ (gives : Sequent → ℕ → Attempt → Type 0) (times : Times) where
  mutual
    -- A tree grows, for a sequent, into another one: the room before, the new tree, the room after.
    pub data GrowsInto : Tree → Sequent → Room → Tree → Room → Type 0 where
      no_rule_left : {s : Sequent} {room : Room} → room.rules ≡ 0 → GrowsInto Leaf s room Leaf room
      run_at_leaf : (attempt : Attempt) {new : Tree} {s : Sequent} {room left : Room} → 1 ≤ room.rules
          → gives s room.rules attempt → LeafBecomes attempt s room new left → GrowsInto Leaf s room new left
      at_rule : (r : Rule) {trees new : List Tree} {s : Sequent} {room left : Room}
          → EachGrowsInto trees r.antecedents s room new left → GrowsInto (Node r trees) s room (Node r new) left

    -- trees below antecedents grow one after the other
    pub data EachGrowsInto : List Tree → List Antecedent → Sequent → Room → List Tree → Room → Type 0 where
      no_tree : {s : Sequent} {room : Room} → EachGrowsInto [] [] s room [] room
      first_tree : {tree new : Tree} {trees more : List Tree} {a : Antecedent} {antecedents : List Antecedent}
          {s : Sequent} {room next left : Room} → GrowsInto tree (extended s a) room new next
          → EachGrowsInto trees antecedents s next more left
          → EachGrowsInto (tree ∷ trees) (a ∷ antecedents) s room (new ∷ more) left

    -- What comes of a leaf by an attempt there. Where the strategy is run again, a tree that took its place grows too.
    pub data LeafBecomes : Attempt → Sequent → Room → Tree → Room → Type 0 where
      refused : {s : Sequent} {room : Room} → LeafBecomes NoProof s room Leaf room
      too_many : {tree : Tree} {s : Sequent} {room : Room} → room.nodes + 1 < node_count tree
          → LeafBecomes (Found tree) s room Leaf (used_up room)
      no_rule : {s : Sequent} {room : Room} → LeafBecomes (Found Leaf) s room Leaf room
      once : {tree : Tree} {s : Sequent} {room : Room} → times ≡ Once → node_count tree ≤ room.nodes + 1
          → LeafBecomes (Found tree) s room tree (beside tree room)
      again : {tree new : Tree} {s : Sequent} {room left : Room} → times ≡ Again → 1 ≤ rule_count tree
          → node_count tree ≤ room.nodes + 1 → GrowsInto tree s (beside tree room) new left
          → LeafBecomes (Found tree) s room new left
