-- What a session must not meet to end with its whole answer.
use Rattle.std.specs.Prelude.{◌≡◌, ℕ, ◌^◌, ◌<◌, ◌≤◌, Bool, List, [], ◌∷◌, length, Some}
use Rattle.outside.specs.Cause.{Rose}
use Rattle.outside.specs.Disk.{Sides}
use Rattle.outside.specs.declared.side.Side.{Side}
use Rattle.journal_core.specs.State.{IsAtRest}
use Rattle.sequent_core.specs.declared.Sequent.{Sequent}
use Rattle.sequent_core.specs.declared.Attempt.{Attempt}
use Rattle.proof_entries.specs.declared.Entry.{Entry}
use Rattle.core_steps.specs.declared.durable.Durable.{Durable}
use Rattle.core_steps.specs.declared.events.Event.{Event}
use Rattle.core_steps.specs.declared.events.Reply.{Reply}
use Rattle.core_steps.specs.State.{State, opened}
use Rattle.core_steps.specs.Step.{Does}
use Rattle.core_steps.specs.Run.{Exchange, Runs}
use Rattle.core_steps.specs.Table.{IsTooLarge}
use Rattle.store_log.specs.History.{exchanges_of, events_of}
use Rattle.project_store.specs.Records.{Recovers, record_body}
use Rattle.project_store.specs.Store.{IsTooHeavy, HasNoRoom}
use Rattle.session_run.specs.OneHistory.{IsFailedEvent}
use Rattle.session_streams.specs.Streams.{SourceState, Writing, SourceFailed, SinkFailed}
use Rattle.session_ends.specs.Ends.{HasReached}

module _ (fair : Sequent → Attempt → Type 0) (base : Durable) (source : SourceState) (history : List (ℕ × Event)) where
  -- After this history, which leads from what was opened to the state, the event may come next: chair 0's line asks for
  -- it, or it is the take of a worker or the finish of a ticket that is out.
  pub record MayComeNext (s : State) (event : Event) : Type 0 where
    pub xs : List (ℕ × Exchange)
    pub events : history ≡ events_of xs
    pub run : Runs (opened base) (exchanges_of xs) s
    pub reached : HasReached fair source xs
    pub next : IsFailedEvent fair 1 (λ user. reached.begun) s event

module _ {D : Type 0} (bytes_of : D → Sides) (images : D → Sides → Type 0) where
  -- the entry that the event adds has no room on the disk
  pub record LacksRoomForEntry (disk : D) (s : State) (event : Event) : Type 0 where
    pub side : Side
    pub gate : ℕ
    pub generation : ℕ
    pub rest_open : Bool
    pub within : gate < 67108864
    pub number : generation < 2 ^ 64
    pub rests : IsAtRest (bytes_of disk) (images disk) side gate generation rest_open
    pub reply : Reply
    pub entry : Entry
    pub new : State
    pub does : Does s event reply (Some entry) new
    pub full : HasNoRoom gate generation s.durable (length (record_body (entry ∷ [])))

  -- Nothing hinders the session: the disk stands for a project whose table isn't too large, the source tells its bytes,
  -- which are within their limit, source, sink and disk didn't fail, and no event that may come next is too heavy or
  -- lacks room.
  pub record IsUnhindered (faults : D → ℕ) (fair : Sequent → Attempt → Type 0)
      (old new : D) (source : SourceState) (sink : Writing) (history : List (ℕ × Event)) : Type 0 where
    pub base : Durable
    pub stands : Recovers (bytes_of old) base
    pub fits : (n : ℕ) → IsTooLarge base.built n → ⊥
    pub input : List ℕ
    pub tells : source.left ≡ Some input
    pub short : length input ≤ 67108864
    pub reads : SourceFailed source → ⊥
    pub writes : SinkFailed sink → ⊥
    pub keeps : Rose (faults old) (faults new) → ⊥
    pub light : (s : State) (event : Event) → MayComeNext fair base source history s event → IsTooHeavy history event → ⊥
    pub roomy : (s : State) (event : Event) → MayComeNext fair base source history s event → LacksRoomForEntry new s event → ⊥

-- The exit statuses of a session that nothing hinders.
pub data IsUnfailedSessionStatus (status : ℕ) : Type 0 where
  session_whole : status ≡ 0 → IsUnfailedSessionStatus status
  session_inside_an_edit : status ≡ 1 → IsUnfailedSessionStatus status
  session_without_memory : status ≡ 9 → IsUnfailedSessionStatus status
