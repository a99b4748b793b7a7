-- An act of a user's chair, from what the desk says of it.
use Rattle.std.proofs.Common.{◌≡◌, ℕ, List, Result, sym, ap, subst}
use Rattle.core_steps.specs.declared.Event.{Event}
use Rattle.core_steps.specs.declared.Reply.{Reply}
use Rattle.turn_desk.specs.Log.{HasSeen}
use Rattle.turn_desk.specs.Chairs.{ChairState, IsSameChair}
use Rattle.store_log.specs.declared.Logged.{Logged}
use Rattle.store_log.specs.declared.StoreBase.{StoreBase}
use Rattle.store_log.specs.declared.StoreFault.{StoreFault}
use Rattle.store_log.specs.Storing.{Handles}
use Rattle.session_run.specs.PrivateActing.{ActsOn}

pub acted : (f : Logged → ℕ) → ((e : Logged) → f e ≡ e.chair) → (k : ℕ) (seen found left sees : List Logged) (b base : StoreBase) → b ≡ base → (event : Event) (answer : Result Reply StoreFault) →
    HasSeen f k seen found → Handles b k event found answer left → sees ≡ left → ActsOn base k event seen answer sees
acted f is k seen found left sees b base origin event answer has applies now = (
  found,
  subst (λ (z : Logged → ℕ). HasSeen z k seen found) (λ i e. is e i) has,
  subst (λ (z : StoreBase × List Logged). Handles z.0 k event found answer z.1) (λ i. (origin i, sym now i)) applies,
)

-- the same chair has the same number
pub same_number : {E B : Type 0} (c d : ChairState E B) → IsSameChair c d → d.number ≡ c.number
same_number {E} {B} c d is = ap (λ (z : ChairState E B). z.number) is
