-- What a stop at any moment of a session leaves.
use Rattle.std.specs.Prelude.{◌⊎◌, ℕ, List}
use Rattle.outside.specs.Disk.{Sides}
use Rattle.sequent_core.specs.declared.Sequent.{Sequent}
use Rattle.sequent_core.specs.declared.Attempt.{Attempt}
use Rattle.core_steps.specs.declared.durable.Durable.{Durable}
use Rattle.core_steps.specs.declared.events.Event.{Event}
use Rattle.core_steps.specs.State.{State}
use Rattle.project_store.specs.Opening.{StandsAsSome}
use Rattle.project_store.specs.Moments.{StandsAtFront}
use Rattle.project_store.specs.Records.{Recovers}
use Rattle.project_store.specs.Store.{HasEntryOf}
use Rattle.session_streams.specs.Streams.{SourceState}
use Rattle.session_ends.specs.Limits.{MayComeNext}

module _ (fair : Sequent → Attempt → Type 0) (source : SourceState) (history : List (ℕ × Event)) where
  -- the sides stand for what lasts after the whole history and the entry of the event in hand
  pub record StandsAfterNext (base : Durable) (sides : Sides) : Type 0 where
    pub state : State
    pub event : Event
    pub next : MayComeNext fair base source history state event
    pub stands : HasEntryOf state event sides

  -- What a stop left, where reads gave these bytes at first, and a stop then left such sides: what stands for what those
  -- stood for; or, from what the first bytes stood for, what lasts after a front of the history, or after all of it and
  -- the entry of the event in hand.
  abbrev pub IsLeftWithin : Sides → (Sides → Type 0) → Sides → Type 0
  IsLeftWithin bytes images sides =
      StandsAsSome images sides
      ⊎ ((base : Durable) × Recovers bytes base × (StandsAtFront base history sides ⊎ StandsAfterNext base sides))
