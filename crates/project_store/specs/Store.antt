-- An open store, as contracts see it.
use Rattle.std.specs.Prelude.{◌≡◌, ◌⊎◌, ⊤, ℕ, ◌+◌, ◌^◌, ◌<◌, ◌≤◌, List, [], ◌∷◌, ◌++◌, length, map, Option, Some, None, IfSome, true, false}
use Rattle.outside.specs.Disk.{Sides}
use Rattle.outside.specs.Cause.{Rose}
use Rattle.journal_core.specs.State.{JournalState, IsAtRest}
use Rattle.proof_entries.specs.declared.Entry.{Entry}
use Rattle.core_steps.specs.declared.durable.Durable.{Durable}
use Rattle.core_steps.specs.declared.events.Event.{Event}
use Rattle.core_steps.specs.declared.events.Reply.{Reply}
use Rattle.core_steps.specs.State.{State, opened}
use Rattle.core_steps.specs.Laws.{IsOrderly}
use Rattle.core_steps.specs.Step.{Does}
use Rattle.core_steps.specs.Run.{Exchange, Runs}
use Rattle.event_weights.specs.Weights.{weight_of}
use Rattle.store_log.specs.History.{exchanges_of, events_of}
use Rattle.store_log.specs.StoreLog.{marks}
use Rattle.store_log.specs.declared.fault.StoreFault.{StoreFault}
use Rattle.store_log.specs.declared.fault.StoreFault.TheVariants.{Failed, SessionFull, OutOfMemory, JournalFull, DiskFault}
use Rattle.project_store.specs.declared.fault.KeptFault.{KeptFault}
use Rattle.store_log.specs.declared.logged.Logged.{Logged}
use Rattle.store_log.specs.declared.logged.StoreBase.{StoreBase}
use Rattle.project_store.specs.Records.{IsSmall, Recovers, RecoversAt, record_body, checkpoint_entries}

-- this fault, met by this event of the chair
abbrev pub met : StoreFault → ℕ → Event → KeptFault
met fault chair event = record { fault = fault; act = (chair, event) }

-- An open store: its journal, the core's state, the acts so far, the first fault, what it was opened with, and how often
-- its disk had failed then.
pub record StoreState (D : Type 0) : Type 0 where
  pub journal : JournalState D
  pub core : State
  pub history : List (ℕ × Event)
  pub kept : Option KeptFault
  pub base : Durable
  pub count : ℕ

abbrev pub weight : List (ℕ × Event) → ℕ
weight [] = 0
weight (act ∷ acts) = weight_of act.1 + weight acts

-- the events of the history and this one weigh more than a session may
abbrev pub IsTooHeavy : List (ℕ × Event) → Event → Type 0
IsTooHeavy history event = 67108864 < weight history + weight_of event

-- the sides stand for the durable after the entry that the event adds
abbrev pub HasEntryOf : State → Event → Sides → Type 0
HasEntryOf s event sides = (reply : Reply) × (entry : Entry) × (new : State) × Does s event reply (Some entry) new × Recovers sides new.durable

-- the sides stand for the durable before the event, or for the one after its entry
abbrev pub IsBeforeOrAfter : State → Event → Sides → Type 0
IsBeforeOrAfter s event sides = Recovers sides s.durable ⊎ HasEntryOf s event sides

-- what a stop leaves after a fault that the event met: after one of the disk also the durable after the event's entry
abbrev pub IsImageAfter : State → StoreFault → Event → Sides → Type 0
IsImageAfter s DiskFault event sides = IsBeforeOrAfter s event sides
IsImageAfter s _ event sides = Recovers sides s.durable

-- what a stop leaves: the durable, or what it leaves after the first fault
abbrev pub IsImage : State → Option KeptFault → Sides → Type 0
IsImage s None sides = Recovers sides s.durable
IsImage s (Some kept) sides = IsImageAfter s kept.fault kept.act.1 sides

abbrev pub IsDiskFault : Option KeptFault → Type 0
IsDiskFault None = ⊥
IsDiskFault (Some kept) = kept.fault ≡ DiskFault

-- Behind records up to this gate, in this generation, a body of this length fits neither there nor behind a checkpoint of
-- the durable.
abbrev pub HasNoRoom : ℕ → ℕ → Durable → ℕ → Type 0
HasNoRoom gate generation d size =
    (67108864 < gate + 6 + size)
    × ((67108864 < 27 + length (record_body (checkpoint_entries d)) + size) ⊎ (18446744073709551615 ≤ generation))

-- the entry that the event adds has no room
abbrev pub HasNoRoomFor : {D : Type 0} → JournalState D → State → Event → Type 0
HasNoRoomFor journal s event =
    (reply : Reply) × (entry : Entry) × (new : State) × Does s event reply (Some entry) new
    × HasNoRoom journal.gate journal.generation s.durable (length (record_body (entry ∷ [])))

-- what a call answers after this fault
abbrev pub again : StoreFault → StoreFault
again DiskFault = Failed
again other = other

-- why the first fault came, by the event that met it; want of memory is free
abbrev pub HasCauseOf : {D : Type 0} → (D → ℕ) → StoreState D → StoreFault → Event → Type 0
HasCauseOf faults s Failed event = ⊥
HasCauseOf faults s SessionFull event = IsTooHeavy s.history event
HasCauseOf faults s OutOfMemory event = ⊤
HasCauseOf faults s JournalFull event = HasNoRoomFor s.journal s.core event
HasCauseOf faults s DiskFault event = Rose s.count (faults s.journal.disk)

-- One step of the core, by which the event is answered so. Without an entry the journal is as it was.
pub record Performs {D : Type 0} (old : StoreState D) (event : Event) (reply : Reply) (new : StoreState D) : Type 0 where
  pub entry : Option Entry
  pub does : Does old.core event reply entry new.core
  pub idle : entry ≡ None → new.journal ≡ old.journal

-- these exchanges of chairs are the history, and lead from what was opened to the state
pub record IsHistoryOf {D : Type 0} (s : StoreState D) (xs : List (ℕ × Exchange)) : Type 0 where
  pub events : s.history ≡ events_of xs
  pub run : Runs (opened s.base) (exchanges_of xs) s.core

-- what holds of a store before and after each call
pub record IsSoundStore {D : Type 0} (told : Type 0) (bytes_of : D → Sides) (images : D → Sides → Type 0) (faults : D → ℕ) (s : StoreState D) : Type 0 where
  pub exchanges : List (ℕ × Exchange)
  pub run : IsHistoryOf s exchanges
  pub small : IsSmall s.core.durable
  -- the numbers of the tickets out differ, and each was given by an act
  pub orderly : IsOrderly s.core
  pub tickets : s.core.next ≤ length s.history + 1
  pub light : weight s.history ≤ 67108864
  -- the journal failed exactly where the first fault is one of the disk
  pub failed : s.journal.failed ≡ true → IsDiskFault s.kept
  pub sound : IsDiskFault s.kept → s.journal.failed ≡ true
  -- what reads give, and what a stop leaves
  pub reads : told → s.journal.failed ≡ false → RecoversAt (bytes_of s.journal.disk) s.journal.side s.journal.generation s.core.durable
  pub stops : told → (c : Sides) → images s.journal.disk c → IsImage s.core s.kept c
  pub counted : s.count ≤ faults s.journal.disk
  pub cause : IfSome s.kept (λ kept. HasCauseOf faults s kept.fault kept.act.1)

-- where no fault is one of the disk, its sides rest at the gate and in the generation that the journal knows, which are
-- within their limits
abbrev pub Rests : {D : Type 0} → Type 0 → (D → Sides) → (D → Sides → Type 0) → StoreState D → Type 0
Rests told bytes_of images s =
    told → (IsDiskFault s.kept → ⊥) →
    (s.journal.gate < 67108864) × (s.journal.generation < 2 ^ 64)
    × IsAtRest (bytes_of s.journal.disk) (images s.journal.disk) s.journal.side s.journal.gate s.journal.generation s.journal.rest_open

-- an act that was done, as an entry of the log
abbrev pub logged : ℕ × Event → Logged
logged act = record { chair = act.0; event = act.1; failed = false }

-- the act that met the first fault
abbrev pub mark_in : Option KeptFault → Option (ℕ × Event)
mark_in None = None
mark_in (Some kept) = Some kept.act

-- the act that met a fault of the disk
abbrev pub failed_by : StoreFault → ℕ × Event → Option (ℕ × Event)
failed_by DiskFault act = Some act
failed_by _ act = None

abbrev pub failed_act : Option KeptFault → Option (ℕ × Event)
failed_act None = None
failed_act (Some kept) = failed_by kept.fault kept.act

-- the history, and after it the mark of the act that met the first fault, if one did
abbrev pub log_in : {D : Type 0} → StoreState D → List Logged
log_in s = map logged s.history ++ marks (mark_in s.kept)

-- what it was opened with, and how often its disk had failed then
abbrev pub base_in : {D : Type 0} → StoreState D → StoreBase
base_in s = record { durable = s.base; faults = s.count }
