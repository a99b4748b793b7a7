-- What a stop at any moment since a store was opened might have left.
use Rattle.std.specs.Prelude.{◌≡◌, ◌⊎◌, ℕ, ◌≤◌, List, ◌++◌}
use Rattle.outside.specs.Disk.{Sides, SameImages}
use Rattle.core_steps.specs.declared.durable.Durable.{Durable}
use Rattle.core_steps.specs.declared.events.Event.{Event}
use Rattle.core_steps.specs.Run.{Exchange, Runs}
use Rattle.core_steps.specs.State.{State, opened}
use Rattle.store_log.specs.History.{exchanges_of, events_of}
use Rattle.project_store.specs.Opening.{StandsAsSome}
use Rattle.project_store.specs.Records.{Recovers}
use Rattle.project_store.specs.Store.{StoreState, IsImage}

-- The sides stand for what lasts after a front of these acts, from what was opened.
pub record StandsAtFront (base : Durable) (acts : List (ℕ × Event)) (sides : Sides) : Type 0 where
  pub front : List (ℕ × Exchange)
  pub behind : List (ℕ × Event)
  pub parts : acts ≡ events_of front ++ behind
  pub state : State
  pub run : Runs (opened base) (exchanges_of front) state
  pub stands : Recovers sides state.durable

-- What a stop left since the opening, where one then left such sides: what stands for what those stood for, what lasts
-- after a front of the history, or what a stop leaves now.
abbrev pub StoodWithin : {D : Type 0} → (Sides → Type 0) → StoreState D → Sides → Type 0
StoodWithin left s sides = StandsAsSome left sides ⊎ StandsAtFront s.base s.history sides ⊎ IsImage s.core s.kept sides

module _ {D : Type 0} (clock : D → ℕ) (moments : D → ℕ → Sides → Type 0) (at : ℕ) (left : Sides → Type 0) (past : ℕ → Sides → Type 0) where
  -- the disk was at this moment, and a stop then and one before might have left this
  pub record IsOpenedOn (images : D → Sides → Type 0) (disk : D) : Type 0 where
    pub same_moment : at ≡ clock disk
    pub same_images : SameImages (images disk) left
    pub same_moments : (t : ℕ) → SameImages (moments disk t) (past t)

  -- a stop at any moment since that one left sides that stood so
  pub record HasStood (s : StoreState D) : Type 0 where
    pub later : at ≤ clock s.journal.disk
    pub each : (c : Sides) → moments s.journal.disk at c → StoodWithin left s c
    pub before : (t : ℕ) (c : Sides) → t ≤ at → moments s.journal.disk t c → past t c ⊎ StoodWithin left s c
