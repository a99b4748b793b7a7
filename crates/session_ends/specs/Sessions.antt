-- What `session WORKERS` does, whole.
use Rattle.std.specs.Prelude.{◌≡◌, ◌⊎◌, ◌≤◌, ℕ, List, [], Option, Some, None, IfSome}
use Rattle.std.specs.Option.{option_map}
use Rattle.sequent_core.specs.declared.Sequent.{Sequent}
use Rattle.sequent_core.specs.declared.Attempt.{Attempt}
use Rattle.sequent_core.specs.declared.Obligation.{Obligation}
use Rattle.outside.specs.Cause.{Rose}
use Rattle.outside.specs.Disk.{Sides, LeavesOnly}
use Rattle.core_steps.specs.declared.durable.Durable.{Durable}
use Rattle.core_steps.specs.declared.events.Event.{Event}
use Rattle.core_steps.specs.State.{State, no_texts}
use Rattle.core_steps.specs.Table.{IsTableWithin}
use Rattle.core_steps.specs.Run.{Exchange}
use Rattle.project_store.specs.declared.fault.KeptFault.{KeptFault}
use Rattle.project_store.specs.declared.fault.OpenFault.{OpenFault}
use Rattle.project_store.specs.declared.fault.OpenFault.TheVariants.{DiskFault}
use Rattle.project_store.specs.Opening.{StoreMeaning, StandsFor, durable, IsCause, IsAnswerFor, StandsAsSome}
use Rattle.project_store.specs.Moments.{StoodWithin}
use Rattle.project_store.specs.Records.{Recovers}
use Rattle.project_store.specs.Store.{StoreState, IsImage, HasCauseOf, Rests, weight}
use Rattle.session_streams.specs.Streams.{SourceState, Writing, WritesNothing}
use Rattle.session_ends.specs.Ends.{HasHistory, EndsWell, EndsInsideEdit, EndsAtReadFault, EndsAtWriteFault}
use Rattle.session_ends.specs.Ends.{EndsWithFullInput, EndsAtStoreFault, EndsWithoutMemory}
use Rattle.session_ends.specs.Statuses.{fault_status, store_fault_line, opening_status, opening_line}
use Rattle.session_ends.specs.Written.{WritesOrFails}

module _ (fair : Sequent → Attempt → Type 0) (workers : ℕ) (status : ℕ) (kept : Option KeptFault)
    (source : SourceState) (sink : Writing) (xs : List (ℕ × Exchange)) (s : State) where
  -- How an opened session ended: by its status, and the first fault of the store, if it met one. A fault of the store
  -- goes before all but want of memory of the commands.
  pub data EndsBy : Type 0 where
    read_to_its_end : (is : status ≡ 0) (none : kept ≡ None) (how : EndsWell fair workers source sink xs) → EndsBy
    inside_an_edit : (is : status ≡ 1) (none : kept ≡ None) (how : EndsInsideEdit fair workers source sink xs) → EndsBy
    at_read_fault : (is : status ≡ 3) (none : kept ≡ None) (how : EndsAtReadFault fair workers source sink xs) → EndsBy
    at_write_fault :
        (is : status ≡ 4) (none : kept ≡ None) (how : EndsAtWriteFault fair workers source sink xs) → EndsBy
    with_full_input :
        (is : status ≡ 7) (none : kept ≡ None) (how : EndsWithFullInput fair workers source sink xs) → EndsBy
    at_store_fault :
        (k : KeptFault) (met : kept ≡ Some k) (is : status ≡ fault_status k.fault)
        (how : EndsAtStoreFault fair workers source sink xs k.act.1 (store_fault_line k.fault) s) → EndsBy
    without_memory :
        (is : status ≡ 9)
        (how : EndsWithoutMemory fair workers source sink xs (option_map (λ k. k.act.1) kept) s) → EndsBy

module _ {D : Type 0} (told : Type 0) (bytes_of : D → Sides) (images : D → Sides → Type 0) (clock : D → ℕ) (moments : D → ℕ → Sides → Type 0) (faults : D → ℕ) where
  -- The project on the disk was opened: its sides stand for the base, and for nothing else, and its table is within the
  -- limit.
  pub record Opens (old : D) (store : StoreState D) : Type 0 where
    pub stood : told → Recovers (bytes_of old) store.base
    pub exactly : told → (meaning : StoreMeaning) → StandsFor (bytes_of old) meaning → meaning ≡ durable store.base
    pub fits : (table : List Obligation) × IsTableWithin store.base.built table
    pub counted : store.count ≡ faults old

  -- It isn't opened, for a cause that its sides have, or a fault of the disk in the call, or want of memory; and what a
  -- stop leaves now, and left at any moment since, stands for what a stop would have left at first.
  pub record Refuses (old new : D) (fault : OpenFault) : Type 0 where
    pub cause : told → IsCause (bytes_of old) fault
    pub exactly : told → (meaning : StoreMeaning) → StandsFor (bytes_of old) meaning → IsAnswerFor meaning fault
    pub disk_fault : fault ≡ DiskFault → Rose (faults old) (faults new)
    pub stands : told → (c : Sides) → images new c → StandsAsSome (images old) c
    pub any_moment : told → LeavesOnly clock moments old new (StandsAsSome (images old))

  -- A refused opening: the source is as it was (`untouched`), nothing was done, and the last line alone is written. Memory
  -- may run out over it.
  pub record IsRefused
      (old new : D) (untouched : Type 0) (sink : Writing) (status : ℕ) (history : List (ℕ × Event)) (last : Durable) :
      Type 0 where
    pub fault : OpenFault
    pub refuses : Refuses old new fault
    pub nothing : (history ≡ []) × (last ≡ no_texts)
    pub unread : untouched
    pub ends :
        ((status ≡ opening_status fault) × WritesOrFails sink (opening_line fault))
        ⊎ ((status ≡ 9) × WritesNothing sink)

  module _ (fair : Sequent → Attempt → Type 0) (sure : Sequent → Type 0) (workers : ℕ) where
    -- A session on an opened project: what the disk stood for at first, the history from there, within its limit, what a
    -- stop leaves now, and what one left at any moment since, the cause of the store's first fault, if it met one, over
    -- this history and the disk as it is now, and how the session ended.
    pub record IsSession
        (old new : D) (source : SourceState) (sink : Writing) (status : ℕ) (history : List (ℕ × Event)) (last : Durable) :
        Type 0 where
      pub store : StoreState D
      pub disk : new ≡ store.journal.disk
      pub opens : Opens old store
      pub xs : List (ℕ × Exchange)
      pub plays : HasHistory fair sure workers store.base history last xs store.core
      pub events : store.history ≡ history
      pub light : weight history ≤ 67108864
      pub rests : Rests told bytes_of images store
      pub stops : told → (c : Sides) → images new c → IsImage store.core store.kept c
      pub any_moment : told → LeavesOnly clock moments old new (StoodWithin (images old) store)
      pub later : faults old ≤ faults new
      pub cause : IfSome store.kept (λ k. HasCauseOf faults store k.fault k.act.1)
      pub ends : EndsBy fair workers status store.kept source sink xs store.core

    abbrev pub Sessions : D → D → Type 0 → SourceState → Writing → ℕ → List (ℕ × Event) → Durable → Type 0
    Sessions old new untouched source sink status history last =
        IsRefused old new untouched sink status history last ⊎ IsSession old new source sink status history last
