-- What is prepared beside an entry.
use Rattle.std.specs.Prelude.{⊤, Option, Some, None}
use Rattle.proof_entries.specs.declared.Entry.{Entry}
use Rattle.proof_entries.specs.declared.Entry.TheVariants.{SetProof}
use Rattle.core_steps.specs.declared.stored.Facts.{Facts}
use Rattle.core_steps.specs.Stored.{AreFactsOf}

-- a proof that is to be stored has the facts of its tree
abbrev pub HasFacts : Option Entry → Option Facts → Type 0
HasFacts (Some (SetProof name proof)) (Some facts) = AreFactsOf proof.tree facts
HasFacts (Some (SetProof name proof)) None = ⊥
HasFacts _ facts = ⊤
