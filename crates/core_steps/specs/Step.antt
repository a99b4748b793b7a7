-- What an event does: its reply, its entry, and the new state.
use Rattle.std.specs.Prelude.{◌≡◌, ℕ, List, Option, Some, None, true, false}
use Rattle.sequent_core.specs.declared.Obligation.{Obligation}
use Rattle.sequent_core.specs.declared.Ticket.{Ticket}
use Rattle.build_core.specs.declared.FaultLine.{FaultLine}
use Rattle.proof_entries.specs.declared.Entry.{Entry}
use Rattle.proof_entries.specs.declared.Origin.{Origin}
use Rattle.core_steps.specs.declared.events.Status.{Status}
use Rattle.core_steps.specs.declared.events.Question.{Question}
use Rattle.core_steps.specs.declared.events.Question.TheVariants.{Statuses as AskStatuses, Faults as AskFaults, Show, TreeOf, Follows as AskFollows, Digest as AskDigest, Idle as AskIdle}
use Rattle.core_steps.specs.declared.events.Event.{Event}
use Rattle.core_steps.specs.declared.events.Event.TheVariants.{Edit, Delete, Build, Step, Prune, Take, Finish, Purge, Ask}
use Rattle.core_steps.specs.declared.events.Reply.{Reply}
use Rattle.core_steps.specs.declared.events.Reply.TheVariants.{Nothing, Taken, Statuses, Faults, Digest, Idle}
use Rattle.core_steps.specs.Faults.{AreFaults, AreWarnings}
use Rattle.core_steps.specs.Table.{IsTable}
use Rattle.core_steps.specs.Status.{IsRebuilt}
use Rattle.core_steps.specs.State.{State}
use Rattle.core_steps.specs.StateDigest.{state_digest}
use Rattle.core_steps.specs.Outcomes.{StepOutcome, told, Where}
use Rattle.core_steps.specs.Editing.{Edits, Deletes, Builds, Purges}
use Rattle.core_steps.specs.Proving.{OnObligation, StepsAt, PrunesAt, ShowsAt, ShowsTree, ShowsFollows}
use Rattle.core_steps.specs.Tickets.{TakesFirst, TakesNamed, IsIdle, Finishes}

-- what comes of a question, beside the table of the built texts: nothing changes
abbrev pub Tells : State → List Obligation → Question → StepOutcome → Type 0
Tells s table AskStatuses x = (shown : List (List ℕ × Status × Option Origin)) × IsRebuilt s.durable shown × (x ≡ told s (Statuses shown))
Tells s table AskFaults x =
    (faults : List FaultLine) × (warnings : List (List ℕ × List ℕ)) × AreFaults s.durable.built faults × AreWarnings s.durable.built warnings
    × (x ≡ told s (Faults faults warnings))
Tells s table (Show name path) x = OnObligation s table name (λ sequent. ShowsAt s name path sequent x) x
Tells s table (TreeOf name) x = OnObligation s table name (λ sequent. ShowsTree s name sequent x) x
Tells s table (AskFollows name) x = OnObligation s table name (λ sequent. ShowsFollows s name sequent x) x
Tells s table AskDigest x = x ≡ told s (Digest (state_digest s.durable))
Tells s table AskIdle x = Where (IsIdle s table) (x ≡ told s (Idle true)) (x ≡ told s (Idle false))

-- what comes of an event, beside the table of the built texts
abbrev pub ComesBeside : State → List Obligation → Event → StepOutcome → Type 0
ComesBeside s table (Edit name text) x = Edits s name text x
ComesBeside s table (Delete name) x = Deletes s name x
ComesBeside s table Build x = Builds s x
ComesBeside s table (Step name path kind hint) x = OnObligation s table name (λ sequent. StepsAt s name path kind hint sequent x) x
ComesBeside s table (Prune name path) x = OnObligation s table name (λ sequent. PrunesAt s name path sequent x) x
ComesBeside s table (Take None) x = TakesFirst s table x
ComesBeside s table (Take (Some name)) x = TakesNamed s table name x
ComesBeside s table (Finish number attempt) x = Finishes s table number attempt x
ComesBeside s table Purge x = Purges s table x
ComesBeside s table (Ask question) x = Tells s table question x

-- what comes of an event
abbrev pub Comes : State → Event → StepOutcome → Type 0
Comes s event x = (table : List Obligation) × IsTable s.durable.built table × ComesBeside s table event x

-- the event is answered by this reply, adds this entry, if any, and leaves this state
abbrev pub Does : State → Event → Reply → Option Entry → State → Type 0
Does s event reply entry new = Comes s event (record { reply = reply; entry = entry; new = new })

-- the event is answered so, with some entry or none
abbrev pub Replies : State → Event → Reply → State → Type 0
Replies s event reply new = (entry : Option Entry) × Does s event reply entry new

-- the reply to a take of the first open obligation
abbrev pub take_reply : Option Ticket → Reply
take_reply None = Nothing
take_reply (Some ticket) = Taken ticket

-- a prover asks for a ticket
abbrev pub IsTake : Event → Type 0
IsTake event = (name : Option (List ℕ)) × (event ≡ Take name)
