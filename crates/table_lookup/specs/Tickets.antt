-- Tickets by their numbers.
use Rattle.std.specs.Prelude.{◌≡◌, ◌≢◌, ◌<◌, ℕ, List, length, take, Option, Some, None}
use Rattle.std.specs.List.{AllByRecursion, HoldsAt}
use Rattle.sequent_core.specs.declared.Ticket.{Ticket}

-- the place of the first ticket of a number
abbrev pub IsTicketAt : List Ticket → ℕ → Option ℕ → Type 0
IsTicketAt out number None = AllByRecursion (λ ticket. ticket.number ≢ number) out
IsTicketAt out number (Some at) =
    (at < length out) × AllByRecursion (λ ticket. ticket.number ≢ number) (take at out) × HoldsAt (λ ticket. ticket.number ≡ number) out at
