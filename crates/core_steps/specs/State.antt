-- The state that users and provers change.
use Rattle.std.specs.Prelude.{ℕ, List, [], ◌∷◌, Option, Some, None}
use Rattle.std.specs.FinMap.{FinMap, insert, remove, empty}
use Rattle.sequent_core.specs.declared.Sequent.{Sequent}
use Rattle.sequent_core.specs.declared.Ticket.{Ticket}
use Rattle.proof_entries.specs.declared.Entry.{Entry}
use Rattle.proof_entries.specs.declared.Entry.TheVariants.{Put, Drop, Build, SetProof, Purge}
use Rattle.core_steps.specs.Durable.{text_cmp}
use Rattle.core_steps.specs.declared.durable.Durable.{Durable}

-- a map without what it has at these names
abbrev pub without_all : {X : Type 0} → FinMap text_cmp X → List (List ℕ) → FinMap text_cmp X
without_all m [] = m
without_all m (name ∷ names) = without_all (remove m name) names

-- what an entry makes of a durable
abbrev pub entered : Durable → Entry → Durable
entered d (Put name text) = record d { texts = insert d.texts name text }
entered d (Drop name) = record d { texts = remove d.texts name }
entered d Build = record d { built = d.texts }
entered d (SetProof name proof) = record d { proofs = insert d.proofs name proof }
entered d (Purge names) = record d { proofs = without_all d.proofs names }

abbrev pub entered_if : Durable → Option Entry → Durable
entered_if d None = d
entered_if d (Some entry) = entered d entry

-- the durable after these entries, one after another
abbrev pub after : Durable → List (Option Entry) → Durable
after d [] = d
after d (entry ∷ entries) = after (entered_if d entry) entries

-- the empty durable
abbrev pub no_texts : Durable
no_texts = record { texts = empty; built = empty; proofs = empty }

-- a durable, the tickets out, the last tried sequent of each tried name, and the number of the next ticket
pub record State : Type 0 where
  pub durable : Durable
  pub out : List Ticket
  pub tried : FinMap text_cmp Sequent
  pub next : ℕ

-- the state in which a durable is opened: no ticket is out, and nothing is tried
abbrev pub opened : Durable → State
opened d = record { durable = d; out = []; tried = empty; next = 1 }
