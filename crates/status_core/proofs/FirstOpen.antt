-- The first open obligation.
use Rattle.std.proofs.Common.{◌≡◌, subst, ℕ, ◌<◌, List, take, length}
use Rattle.std.specs.Prelude.{Option, Some, None, MatchOption, unwrap_or}
use Rattle.std.specs.List.{AllByRecursion, HoldsAt}
use Rattle.sequent_core.specs.declared.Obligation.{Obligation}
use Rattle.sequent_core.specs.declared.Ticket.{Ticket}
use Rattle.core_steps.specs.State.{State}
use Rattle.core_steps.specs.Tickets.{CanTake, IsOpen}
use Rattle.core_steps.proofs.Alls.{all_front}
use Rattle.status_core.specs.PrivateParts.{IsFirstOpen}

-- what is found beside the state's tickets
pub first_of : (s : State) (table : List Obligation) (out : List Ticket) (found : Option ℕ) → out ≡ s.out →
    MatchOption found (AllByRecursion (λ o. CanTake s.durable.proofs out s.tried o → ⊥) table)
    (λ at. (at < length table) × AllByRecursion (λ o. CanTake s.durable.proofs out s.tried o → ⊥) (take at table)
    × HoldsAt (λ o. CanTake s.durable.proofs out s.tried o) table at) →
    IsFirstOpen s table found
first_of s table out None same first = subst (λ (tickets : List Ticket). AllByRecursion (λ o. CanTake s.durable.proofs tickets s.tried o → ⊥) table) same first
first_of s table out (Some at) same first =
    subst (λ (tickets : List Ticket). (at < length table) × AllByRecursion (λ o. CanTake s.durable.proofs tickets s.tried o → ⊥) (take at table)
    × HoldsAt (λ o. CanTake s.durable.proofs tickets s.tried o) table at) same first

-- none before it is open, and none at all where none was found
pub closed_until : (s : State) (table : List Obligation) (found : Option ℕ) (end : ℕ) → IsFirstOpen s table found →
    AllByRecursion (λ o. IsOpen s o → ⊥) (take (unwrap_or found end) table)
closed_until s table None end first = all_front (λ o. IsOpen s o → ⊥) end table first
closed_until s table (Some at) end first = first.1
