-- Obligations that aren't open.
use Rattle.std.specs.Prelude.{◌<◌, ⊤, ℕ, List, length, take}
use Rattle.std.specs.List.{AllByRecursion}
use Rattle.sequent_core.specs.declared.Obligation.{Obligation}
use Rattle.sequent_core.specs.declared.Ticket.{Ticket}
use Rattle.core_steps.specs.Table.{IsTable}
use Rattle.core_steps.specs.State.{State}
use Rattle.core_steps.specs.Tickets.{IsOpen}
use Rattle.prepared_events.specs.declared.moves.TicketMove.{TicketMove}
use Rattle.prepared_events.specs.declared.moves.TicketMove.TheVariants.{TakeIn, Try}

-- no obligation before this place of the table is open
abbrev pub AreClosedBefore : State → ℕ → Type 0
AreClosedBefore s at =
    (table : List Obligation) → IsTable s.durable.built table → AllByRecursion (λ o. IsOpen s o → ⊥) (take at table)

-- the ticket that comes in is there
abbrev pub IsThere : List Ticket → TicketMove → Type 0
IsThere out (TakeIn at) = at < length out
IsThere out (Try at) = at < length out
IsThere out tickets = ⊤
