-- What only private contracts cite.
use Rattle.std.specs.Prelude.{◌≡◌, ◌≢◌, ◌≤◌, ◌+◌, ◌⊎◌, ⊤, ℕ, List, [], ◌∷◌, ◌++◌, length, Option, Some, None, true, false}
use Rattle.std.specs.List.{AllByRecursion}
use Rattle.std.specs.FinMap.{entries}
use Rattle.outside.specs.Cause.{Rose}
use Rattle.outside.specs.Disk.{Sides}
use Rattle.journal_core.specs.State.{JournalState}
use Rattle.proof_entries.specs.declared.Entry.{Entry}
use Rattle.core_steps.specs.Durable.{ProjectMap}
use Rattle.core_steps.specs.declared.durable.Durable.{Durable}
use Rattle.core_steps.specs.declared.events.Event.{Event}
use Rattle.core_steps.specs.declared.events.Reply.{Reply}
use Rattle.core_steps.specs.Laws.{IsOrderly}
use Rattle.core_steps.specs.State.{State, entered, entered_if, no_texts}
use Rattle.core_steps.specs.Step.{Does}
use Rattle.core_steps.specs.Table.{IsTooLarge}
use Rattle.prepared_events.specs.Prepared.{Ready, IsReady, changed_by}
use Rattle.store_log.specs.declared.fault.StoreFault.{StoreFault}
use Rattle.store_log.specs.declared.fault.StoreFault.TheVariants as store
use Rattle.outside.specs.declared.side.Side.{Side}
use Rattle.journal_core.specs.declared.piece.JournalFault.{JournalFault}
use Rattle.journal_core.specs.declared.piece.JournalFault.TheVariants as journal
use Rattle.project_store.specs.declared.fault.OpenFault.{OpenFault}
use Rattle.project_store.specs.declared.fault.OpenFault.TheVariants.{Foreign, Damaged, TableFull, DiskFault, OutOfMemory}
use Rattle.project_store.specs.Records.{IsBody, IsSmall, Leads, Recovers, RecoversAt, record_body}
use Rattle.project_store.specs.Opening.{HasStop}
use Rattle.project_store.specs.Store.{StoreState, HasNoRoom, HasNoRoomFor, IsTooHeavy, Performs, met}

-- each text of the project has at most 65,536 bytes
abbrev pub AreShortTexts : ProjectMap → Type 0
AreShortTexts project = AllByRecursion (λ e. length e.1 ≤ 65536) (entries project)

-- so have the texts and the built ones
pub record HasShortTexts (d : Durable) : Type 0 where
  pub texts : AreShortTexts d.texts
  pub built : AreShortTexts d.built

-- the sides stand for the durable, or for the one after the entry, if there is one
abbrev pub IsEither : Durable → Option Entry → Sides → Type 0
IsEither d None sides = Recovers sides d
IsEither d (Some entry) sides = Recovers sides d ⊎ Recovers sides (entered d entry)

-- a body is read in one way
abbrev pub IsSingle : List ℕ → Type 0
IsSingle body = (es fs : List Entry) → IsBody body es → IsBody body fs → es ≡ fs

-- one of these records doesn't lead on, and those before it are read in one way
pub record FindsStop (bodies : List (List ℕ)) (gate : ℕ) : Type 0 where
  pub stop : HasStop bodies gate
  pub single : AllByRecursion IsSingle stop.before

-- the fault for records of which one doesn't lead on
abbrev pub IsReplayFault : List (List ℕ) → Side → OpenFault → Type 0
IsReplayFault bodies on (Damaged side gate) = (side ≡ on) × FindsStop bodies gate
IsReplayFault bodies on OutOfMemory = ⊤
IsReplayFault bodies on (Foreign side) = ⊥
IsReplayFault bodies on (TableFull n) = ⊥
IsReplayFault bodies on DiskFault = ⊥

-- these records lead to a durable whose table is too large
pub record LeadsTooFar (bodies : List (List ℕ)) (n : ℕ) : Type 0 where
  pub durable : Durable
  pub leads : Leads no_texts bodies durable
  pub single : AllByRecursion IsSingle bodies
  pub full : IsTooLarge durable.built n

-- the fault with which a core for the records isn't opened
abbrev pub IsCoreFault : List (List ℕ) → Side → OpenFault → Type 0
IsCoreFault bodies on (TableFull n) = LeadsTooFar bodies n
IsCoreFault bodies on (Damaged side gate) = (side ≡ on) × FindsStop bodies gate
IsCoreFault bodies on OutOfMemory = ⊤
IsCoreFault bodies on (Foreign side) = ⊥
IsCoreFault bodies on DiskFault = ⊥

-- the entry, if there is one, has no room
abbrev pub LacksEntryRoom : ℕ → ℕ → Durable → Option Entry → Type 0
LacksEntryRoom gate generation d None = ⊥
LacksEntryRoom gate generation d (Some entry) = HasNoRoom gate generation d (length (record_body (entry ∷ [])))

-- what is known of what is prepared for an event in an orderly state
pub record IsPreparedFor (s : State) (event : Event) (p : Ready) : Type 0 where
  pub does : Does s event p.reply p.entry (changed_by p s)
  pub ready : IsReady s p
  pub enters : (changed_by p s).durable ≡ entered_if s.durable p.entry
  pub small : IsSmall (entered_if s.durable p.entry)
  pub next : (changed_by p s).next ≤ s.next + 1
  pub orderly : IsOrderly (changed_by p s)
  pub only : (reply : Reply) (entry : Option Entry) (new : State) → Does s event reply entry new → p.entry ≡ entry

-- An event was done in this state, with this reply. Then this is the state, and this is the journal.
pub record IsDone {D : Type 0} (told : Type 0) (bytes_of : D → Sides) (images : D → Sides → Type 0) (old new : JournalState D) (s t : State) (event : Event) (reply : Reply) : Type 0 where
  pub entry : Option Entry
  pub does : Does s event reply entry t
  pub idle : entry ≡ None → new ≡ old
  pub small : IsSmall t.durable
  pub orderly : IsOrderly t
  pub next : t.next ≤ s.next + 1
  pub sound : new.failed ≡ false
  pub reads : told → RecoversAt (bytes_of new.disk) new.side new.generation t.durable
  pub stops : told → (c : Sides) → images new.disk c → Recovers c t.durable
  pub room : HasNoRoomFor old s event → ⊥

-- An event met this fault in this state. Then this is the state, and this is the journal.
pub record IsUndone {D : Type 0} (faults : D → ℕ) (old new : JournalState D) (s t : State) (event : Event) (fault : StoreFault) : Type 0 where
  pub same : t ≡ s
  pub stays : ((new ≡ old) × (fault ≢ store.DiskFault)) ⊎ ((fault ≡ store.DiskFault) × (new.failed ≡ true))
  pub first : fault ≢ store.Failed
  pub light : fault ≢ store.SessionFull
  pub full : fault ≡ store.JournalFull → HasNoRoomFor old s event
  pub room : HasNoRoomFor old s event → fault ≢ store.DiskFault
  pub rose : fault ≡ store.DiskFault → Rose (faults old.disk) (faults new.disk)

-- what the store is after an act that was done
pub record IsActed {D : Type 0} (told : Type 0) (images : D → Sides → Type 0) (old new : StoreState D) (chair : ℕ) (event : Event) (reply : Reply) : Type 0 where
  pub step : Performs old event reply new
  pub noted : new.history ≡ old.history ++ (chair, event) ∷ []
  pub sound : new.kept ≡ None
  pub stops : told → (c : Sides) → images new.journal.disk c → Recovers c new.core.durable
  pub light : IsTooHeavy old.history event → ⊥
  pub room : HasNoRoomFor old.journal old.core event → ⊥

-- what the store is after an act that met a fault
pub record IsStopped {D : Type 0} (faults : D → ℕ) (old new : StoreState D) (chair : ℕ) (event : Event) (fault : StoreFault) : Type 0 where
  pub core : new.core ≡ old.core
  pub history : new.history ≡ old.history
  pub kept : new.kept ≡ Some (met fault chair event)
  pub first : fault ≢ store.Failed
  pub heavy : fault ≡ store.SessionFull → IsTooHeavy old.history event
  pub light : IsTooHeavy old.history event → fault ≡ store.SessionFull
  pub full : fault ≡ store.JournalFull → HasNoRoomFor old.journal old.core event
  pub room : HasNoRoomFor old.journal old.core event → fault ≢ store.DiskFault
  pub rose : fault ≡ store.DiskFault → Rose (faults old.journal.disk) (faults new.journal.disk)
  pub untouched : (fault ≡ store.DiskFault) ⊎ (new.journal ≡ old.journal)

abbrev pub opening_fault : JournalFault → OpenFault
opening_fault (journal.Foreign side) = Foreign side
opening_fault (journal.Damaged side gate) = Damaged side gate
opening_fault journal.DiskFault = DiskFault
opening_fault journal.OutOfMemory = OutOfMemory
