-- What comes of an event: a reply, an entry if any, and the new state.
use Rattle.std.specs.Prelude.{◌≡◌, ◌⊎◌, ℕ, ◌+◌, List, [], ◌∷◌, ◌++◌, Option, Some, None}
use Rattle.sequent_core.specs.declared.Obligation.{Obligation}
use Rattle.sequent_core.specs.declared.Ticket.{Ticket}
use Rattle.proof_entries.specs.declared.Entry.{Entry}
use Rattle.core_steps.specs.State.{State, entered}
use Rattle.core_steps.specs.declared.events.Reply.{Reply}

pub record StepOutcome : Type 0 where
  pub reply : Reply
  pub entry : Option Entry
  pub new : State

-- the reply is given, and nothing changes
abbrev pub told : State → Reply → StepOutcome
told s reply = record { reply = reply; entry = None; new = s }

-- the reply is given, and the entry is made
abbrev pub entering : State → Reply → Entry → StepOutcome
entering s reply entry = record { reply = reply; entry = Some entry; new = record s { durable = entered s.durable entry } }

-- where the test holds the one, and else the other
abbrev pub Where : Type 0 → Type 0 → Type 0 → Type 0
Where test one other = (test × one) ⊎ ((test → ⊥) × other)

-- unless the test holds the one, and else the other
abbrev pub Unless : Type 0 → Type 0 → Type 0 → Type 0
Unless test one other = ((test → ⊥) × one) ⊎ (test × other)
