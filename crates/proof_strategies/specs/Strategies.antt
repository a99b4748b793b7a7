-- What each strategy may answer.
use Rattle.std.specs.Prelude.{◌≡◌, ◌<◌, ◌⊎◌, ⊤, ℕ, Ok, Err}
use Rattle.proof_steps.specs.Places.{with_leaves}
use Rattle.rule_making.specs.declared.fault.RuleFault.{RuleFault}
use Rattle.rule_making.specs.declared.fault.RuleFault.TheVariants.{OutOfMemory}
use Rattle.rule_making.specs.Make.{Answers}
use Rattle.rule_table.specs.declared.rule.Rule.{Rule}
use Rattle.sequent_core.specs.declared.hint.Hint.{Hint}
use Rattle.sequent_core.specs.declared.prover.Attempt.{Attempt}
use Rattle.sequent_core.specs.declared.prover.Attempt.TheVariants.{Found, NoProof, NoMemory}
use Rattle.sequent_core.specs.declared.sequent.Sequent.{Sequent}
use Rattle.sequent_core.specs.declared.tree.Tree.{Tree}
use Rattle.sequent_core.specs.declared.tree.Tree.TheVariants.{Leaf}
use Rattle.sequent_core.specs.Trees.{node_count}
use Rattle.proof_strategies.specs.declared.room.Room.{Room}
use Rattle.proof_strategies.specs.declared.room.Times.TheVariants.{Once, Again}
use Rattle.proof_strategies.specs.Growth.{GrowsInto, beside, whole}

-- what holds of a tree that is found
abbrev pub IfFound : Attempt → (Tree → Type 0) → Type 0
IfFound (Found tree) P = P tree
IfFound _ P = ⊤

-- no rule is made of a kind and a hint, for another cause than memory, or it leaves too many sequents
abbrev pub IsRuleRefused : ℕ → Hint → Sequent → Type 0
IsRuleRefused kind hint s =
    ((f : RuleFault) × (f ≡ OutOfMemory → ⊥) × Answers kind hint s (Err f))
    ⊎ ((r : Rule) × Answers kind hint s (Ok r) × 2048 < node_count (with_leaves r))

-- the rule that is made of a kind and a hint, with a leaf for each sequent that it leaves; no proof exactly where refused
abbrev pub GivesOne : ℕ → Hint → Sequent → Attempt → Type 0
GivesOne kind hint s (Found tree) =
    ¬ IsRuleRefused kind hint s × (r : Rule) × Answers kind hint s (Ok r) × (tree ≡ with_leaves r)
GivesOne kind hint s NoProof = IsRuleRefused kind hint s
GivesOne kind hint s NoMemory = ⊤

-- the first one's tree, grown by the second one with the room that is left; no proof where the first one has none
abbrev pub GivesThen : (first second : Sequent → ℕ → Attempt → Type 0) → Sequent → ℕ → Attempt → Type 0
GivesThen first second s budget (Found tree) =
    (start : Tree) × (left : Room) × first s budget (Found start)
    × GrowsInto second Once start s (beside start (whole budget)) tree left
GivesThen first second s budget NoProof = first s budget NoProof
GivesThen first second s budget NoMemory = ⊤

-- what the first one gives, and where it gives no proof, what the second one gives
abbrev pub GivesOrElse : (first second : Sequent → ℕ → Attempt → Type 0) → Sequent → ℕ → Attempt → Type 0
GivesOrElse first second s budget (Found tree) =
    first s budget (Found tree) ⊎ (first s budget NoProof × second s budget (Found tree))
GivesOrElse first second s budget NoProof = first s budget NoProof × second s budget NoProof
GivesOrElse first second s budget NoMemory = ⊤

-- a leaf, grown by the body again and again
abbrev pub GivesRepeat : (body : Sequent → ℕ → Attempt → Type 0) → Sequent → ℕ → Attempt → Type 0
GivesRepeat body s budget (Found tree) = (left : Room) × GrowsInto body Again Leaf s (whole budget) tree left
GivesRepeat body s budget NoProof = ⊥
GivesRepeat body s budget NoMemory = ⊤
