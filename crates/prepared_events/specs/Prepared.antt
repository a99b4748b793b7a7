-- What is prepared for an event: its reply, its entry, what happens to the tickets, and the memory for it.
use Rattle.std.specs.Prelude.{◌≡◌, ⊤, ℕ, ◌+◌, ◌<◌, ◌^◌, List, [], ◌∷◌, ◌++◌, length, take, drop, slice_get, Option, Some, None, IfSome, false}
use Rattle.std.specs.FinMap.{FinMap, entries, insert, len, contains_key}
use Rattle.sequent_core.specs.declared.Ticket.{Ticket}
use Rattle.sequent_core.specs.declared.Sequent.{Sequent}
use Rattle.proof_entries.specs.declared.Entry.{Entry}
use Rattle.proof_entries.specs.declared.Proof.{Proof}
use Rattle.proof_entries.specs.declared.Entry.TheVariants.{Put, Build, SetProof}
use Rattle.build_core.specs.Moved.{HasFewSteps}
use Rattle.core_steps.specs.Durable.{text_cmp, ProjectMap, IsSmallProject}
use Rattle.core_steps.specs.declared.durable.Durable.{Durable}
use Rattle.core_steps.specs.declared.events.Reply.{Reply}
use Rattle.core_steps.specs.State.{State, entered_if}
use Rattle.prepared_events.specs.declared.moves.TicketMove.{TicketMove}
use Rattle.prepared_events.specs.declared.moves.TicketMove.TheVariants.{Stay, SendOut, TakeIn, Try}

-- the tickets without the one at a place
abbrev pub without_ticket : ℕ → List Ticket → List Ticket
without_ticket at tickets = take at tickets ++ drop (at + 1) tickets

-- the sequent of the ticket is the last tried one of its name
abbrev pub tried_of : FinMap text_cmp Sequent → Option Ticket → FinMap text_cmp Sequent
tried_of tried None = tried
tried_of tried (Some ticket) = insert tried ticket.name ticket.sequent

-- the state after what happens to a ticket
abbrev pub moved : TicketMove → State → State
moved Stay s = s
moved (SendOut ticket) s = record s { out = s.out ++ ticket ∷ []; next = s.next + 1 }
moved (TakeIn at) s = record s { out = without_ticket at s.out }
moved (Try at) s = record s { out = without_ticket at s.out; tried = tried_of s.tried (slice_get s.out at) }

-- a reply, an entry, what happens to a ticket, the texts that were built, and for how many elements there is memory
pub record Ready : Type 0 where
  pub reply : Reply
  pub entry : Option Entry
  pub tickets : TicketMove
  pub built : Option ProjectMap
  pub text_room : ℕ
  pub proof_room : ℕ
  pub tried_room : ℕ
  pub ticket_room : ℕ

-- the state after it
abbrev pub changed_by : Ready → State → State
changed_by p s = moved p.tickets (record s { durable = entered_if s.durable p.entry })

-- there is memory for what the entry adds to the texts or to the proofs
abbrev pub FitsEntry : ProjectMap → FinMap text_cmp Proof → ℕ → ℕ → Option Entry → Type 0
FitsEntry texts proofs text_room proof_room (Some (Put name text)) = contains_key texts name ≡ false → len texts < text_room
FitsEntry texts proofs text_room proof_room (Some (SetProof name proof)) = contains_key proofs name ≡ false → len proofs < proof_room
FitsEntry texts proofs text_room proof_room _ = ⊤

-- what was built are the present texts, where the entry is a build
abbrev pub FitsBuilt : ProjectMap → Option ProjectMap → Option Entry → Type 0
FitsBuilt texts built (Some Build) = built ≡ Some texts
FitsBuilt texts built _ = ⊤

-- there is memory for the sequent of the ticket under its name
abbrev pub FitsTried : FinMap text_cmp Sequent → ℕ → Ticket → Type 0
FitsTried tried room ticket = contains_key tried ticket.name ≡ false → len tried < room

-- the ticket is there, and there is memory for it or its sequent, and a number for the next ticket
abbrev pub FitsMove : List Ticket → FinMap text_cmp Sequent → ℕ → ℕ → ℕ → TicketMove → Type 0
FitsMove out tried next tried_room ticket_room Stay = ⊤
FitsMove out tried next tried_room ticket_room (SendOut ticket) = (length out < ticket_room) × (next + 1 < 2 ^ 64)
FitsMove out tried next tried_room ticket_room (TakeIn at) = at < length out
FitsMove out tried next tried_room ticket_room (Try at) = (at < length out) × IfSome (slice_get out at) (FitsTried tried tried_room)

-- in this state all is there for it, and its texts are a project that may be built
pub record IsReady (s : State) (p : Ready) : Type 0 where
  pub texts : IsSmallProject (entered_if s.durable p.entry).texts
  pub entry_room : FitsEntry s.durable.texts s.durable.proofs p.text_room p.proof_room p.entry
  pub built : FitsBuilt s.durable.texts p.built p.entry
  pub ticket_room : FitsMove s.out s.tried s.next p.tried_room p.ticket_room p.tickets

-- a build of the present texts takes few steps
abbrev pub BuildsInFewSteps : Durable → ℕ → ℕ → Type 0
BuildsInFewSteps d before behind = HasFewSteps (entries d.built) (entries d.texts) before behind
