-- Histories: events one after another, with their replies and entries.
use Rattle.std.specs.Prelude.{◌≡◌, ◌≢◌, ℕ, List, [], ◌∷◌, map, Option}
use Rattle.std.specs.List.{AllByRecursion}
use Rattle.core_steps.specs.declared.events.Event.{Event}
use Rattle.core_steps.specs.declared.events.Reply.{Reply}
use Rattle.core_steps.specs.declared.events.Reply.TheVariants.{NoTicket}
use Rattle.proof_entries.specs.declared.Entry.{Entry}
use Rattle.core_steps.specs.State.{State}
use Rattle.core_steps.specs.Step.{Does}

-- an event with its reply and its entry, if any
pub record Exchange : Type 0 where
  pub event : Event
  pub reply : Reply
  pub entry : Option Entry

abbrev pub IsStepOf : State → Exchange → State → Type 0
IsStepOf old x new = Does old x.event x.reply x.entry new

-- these exchanges lead from the one state to the other
abbrev pub Runs : State → List Exchange → State → Type 0
Runs old [] new = new ≡ old
Runs old (x ∷ exchanges) new = (mid : State) × IsStepOf old x mid × Runs mid exchanges new

-- one chair's history of these exchanges
abbrev pub history_of : ℕ → List Exchange → List (ℕ × Event)
history_of chair exchanges = map (λ x. (chair, x.event)) exchanges

-- each ticket that is finished was out
abbrev pub IsLegal : List Exchange → Type 0
IsLegal exchanges = AllByRecursion (λ x. (number : ℕ) → x.reply ≢ NoTicket number) exchanges
