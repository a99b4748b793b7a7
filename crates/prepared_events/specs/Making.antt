-- What is prepared, by what its event does.
use Rattle.std.specs.Prelude.{ℕ, List, Some, None}
use Rattle.sequent_core.specs.declared.Ticket.{Ticket}
use Rattle.proof_entries.specs.declared.Proof.{Proof}
use Rattle.proof_entries.specs.declared.Entry.TheVariants.{Put, Drop, Build, SetProof, Purge}
use Rattle.core_steps.specs.Durable.{ProjectMap}
use Rattle.core_steps.specs.declared.events.Reply.{Reply}
use Rattle.prepared_events.specs.declared.moves.TicketMove.TheVariants.{Stay, SendOut, TakeIn, Try}
use Rattle.prepared_events.specs.Prepared.{Ready}

abbrev pub telling : Reply → Ready
telling reply = record {
  reply = reply;
  entry = None;
  tickets = Stay;
  built = None;
  text_room = 0;
  proof_room = 0;
  tried_room = 0;
  ticket_room = 0;
}

abbrev pub putting : Reply → List ℕ → List ℕ → ℕ → Ready
putting reply name text room = record (telling reply) { entry = Some (Put name text); text_room = room }

abbrev pub dropping : Reply → List ℕ → Ready
dropping reply name = record (telling reply) { entry = Some (Drop name) }

abbrev pub building : Reply → ProjectMap → Ready
building reply project = record (telling reply) { entry = Some Build; built = Some project }

abbrev pub purging : Reply → List (List ℕ) → Ready
purging reply names = record (telling reply) { entry = Some (Purge names) }

abbrev pub keeping : Reply → List ℕ → Proof → ℕ → Ready
keeping reply name proof room = record (telling reply) { entry = Some (SetProof name proof); proof_room = room }

abbrev pub sending : Reply → Ticket → ℕ → Ready
sending reply ticket room = record (telling reply) { tickets = SendOut ticket; ticket_room = room }

abbrev pub taking_in : Ready → ℕ → Ready
taking_in p at = record p { tickets = TakeIn at }

abbrev pub trying : Reply → ℕ → ℕ → Ready
trying reply at room = record (telling reply) { tickets = Try at; tried_room = room }
