-- What a prover may answer.
use Rattle.std.specs.Prelude.{ℕ, ◌≤◌, ⊤}
use Rattle.sequent_core.specs.declared.sequent.Sequent.{Sequent}
use Rattle.sequent_core.specs.declared.tree.Tree.{Tree}
use Rattle.sequent_core.specs.declared.prover.Attempt.{Attempt}
use Rattle.sequent_core.specs.declared.prover.Attempt.TheVariants.{Found, NoProof, NoMemory}
use Rattle.sequent_core.specs.Trees.{Derives, node_count, rule_count}

-- a proof that may be stored: at most 2,048 nodes, and it derives the sequent
pub record IsGoodTree (tree : Tree) (s : Sequent) : Type 0 where
  pub small : node_count tree ≤ 2048
  pub derives : Derives tree s

-- a good proof, or out of memory
abbrev pub IsGood : Attempt → Sequent → Type 0
IsGood (Found tree) s = IsGoodTree tree s
IsGood NoProof s = ⊥
IsGood NoMemory s = ⊤

-- a proof of at most so many rules, no proof where the sequent isn't sure, or out of memory
abbrev pub AnswersWithin : ℕ → Type 0 → Sequent → Attempt → Type 0
AnswersWithin budget sure s (Found tree) = (rule_count tree ≤ budget) × Derives tree s
AnswersWithin budget sure s NoProof = ¬ sure
AnswersWithin budget sure s NoMemory = ⊤

-- the prover may answer so, and on a sure sequent it is a good proof or out of memory
abbrev pub IsFair : Type 0 → Type 0 → Attempt → Sequent → Type 0
IsFair answers sure attempt s = answers × (sure → IsGood attempt s)
