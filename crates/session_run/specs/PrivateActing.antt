-- An act of a user's chair at the desk.
use Rattle.std.specs.Prelude.{◌≢◌, ℕ, List, Some, Result, Ok, Err}
use Rattle.core_steps.specs.declared.Event.{Event}
use Rattle.core_steps.specs.declared.Event.TheVariants.{Take}
use Rattle.core_steps.specs.declared.Reply.{Reply}
use Rattle.core_steps.specs.declared.Reply.TheVariants.{Taken}
use Rattle.sequent_core.specs.declared.Ticket.{Ticket}
use Rattle.sequent_core.specs.Sequents.{IsSequent}
use Rattle.turn_desk.specs.Log.{HasSeen}
use Rattle.store_log.specs.declared.Logged.{Logged}
use Rattle.store_log.specs.declared.StoreBase.{StoreBase}
use Rattle.store_log.specs.declared.StoreFault.{StoreFault}
use Rattle.store_log.specs.StoreLog.{chair_of}
use Rattle.store_log.specs.Storing.{Handles}

-- An act of a chair, which had seen so much, at the desk: others may have acted before it.
abbrev pub ActsOn : StoreBase → ℕ → Event → List Logged → Result Reply StoreFault → List Logged → Type 0
ActsOn base user event seen answer sees = (found : List Logged) × HasSeen chair_of user seen found × Handles base user event found answer sees

-- A take of a named obligation by the chair: it gave this ticket, whose sequent a prover may be asked, or another reply.
abbrev pub TookNamed : StoreBase → ℕ → List ℕ → List Logged → Result Ticket Reply → List Logged → Type 0
TookNamed base user name seen (Ok ticket) sees = ActsOn base user (Take (Some name)) seen (Ok (Taken ticket)) sees × IsSequent ticket.sequent
TookNamed base user name seen (Err reply) sees = ActsOn base user (Take (Some name)) seen (Ok reply) sees × ((ticket : Ticket) → reply ≢ Taken ticket)
