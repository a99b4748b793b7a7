-- What is known of a prepared event, by the laws of the core.
use Rattle.std.proofs.Common.{◌≡◌, ◌⊎◌, inl, inr, ⊎_elim, sym, ap, subst, refl, ℕ, true, false, Option, Some, None, [], arith}
use Rattle.std.specs.Prelude.{Result, Ok, Err, MatchResult, OnOk, OnErr, IsErrOf}
use Rattle.outside.specs.Cause.{Rose}
use Rattle.std.specs.FinMap.{len-entries}
use Rattle.std.specs.List.{IsDistinct}
use Rattle.outside.specs.Disk.{Sides, LeavesOnly}
use Rattle.build_core.specs.Moved.{HasFewSteps}
use Rattle.build_core.specs.Projects.{Project}
use Rattle.proof_entries.specs.declared.Entry.{Entry}
use Rattle.core_steps.specs.declared.durable.Durable.{Durable}
use Rattle.core_steps.specs.declared.events.Event.{Event}
use Rattle.core_steps.specs.declared.events.Reply.{Reply}
use Rattle.core_steps.specs.Laws.{IsOrderly, HasOneAnswer, StaysOrderly, EntersAll, GrowsSlowly}
use Rattle.core_steps.specs.State.{State, entered_if}
use Rattle.core_steps.specs.Step.{Does}
use Rattle.prepared_events.specs.Prepared.{Ready, IsReady, changed_by}
use Rattle.store_log.specs.declared.fault.StoreFault.{StoreFault}
use Rattle.store_log.specs.declared.fault.StoreFault.TheVariants.{Failed, SessionFull, OutOfMemory, JournalFull, DiskFault}
use Rattle.project_store.specs.Records.{IsSmall, Recovers, RecoversAt}
use Rattle.journal_core.specs.State.{JournalState}
use Rattle.project_store.specs.Private.{IsEither, LacksEntryRoom, IsPreparedFor, IsDone, IsUndone}
use Rattle.project_store.specs.Store.{IsBeforeOrAfter, HasNoRoomFor}
use Rattle.project_store.proofs.Moments.{weaken}
use Rattle.project_store.proofs.Further.{as_event}

-- a build that isn't tried takes no step
pub no_steps : (old new : Project) (n : ℕ) → HasFewSteps old new n n
unfolding IsDistinct
no_steps old new n = ([], tt, tt, omega arith)

-- what is known of what is prepared, by the laws of the core
pub prepared_for : (s : State) (event : Event) (p : Ready) → IsOrderly s → Does s event p.reply p.entry (changed_by p s) → IsReady s p → HasOneAnswer → EntersAll → GrowsSlowly → StaysOrderly → IsPreparedFor s event p
prepared_for s event p orderly does ready one_answer enters_all grows_slowly stays_orderly = record {
  does = does;
  ready = ready;
  enters = enters_all s event p.reply p.entry (changed_by p s) does;
  small = omega (arith, ready.texts.0, len-entries (entered_if s.durable p.entry).texts);
  next = (grows_slowly s event p.reply p.entry (changed_by p s) does).0;
  orderly = stays_orderly s event p.reply p.entry (changed_by p s) orderly does;
  only = λ reply entry new other. (one_answer s event p.reply reply p.entry entry (changed_by p s) new orderly does other).1;
}

-- what a stop leaves, by the entry of the event, if it adds one
pub event_moments : {D : Type 0} (clock : D → ℕ) (moments : D → ℕ → Sides → Type 0) (old now : D) (s : State) (d : Durable) (event : Event) (reply : Reply) (entry : Option Entry) (new : State)
    → LeavesOnly clock moments old now (IsEither d entry) → d ≡ s.durable → Does s event reply entry new → new.durable ≡ entered_if s.durable entry → LeavesOnly clock moments old now (IsBeforeOrAfter s event)
event_moments clock moments old now s d event reply entry new leaves is does enters =
    weaken clock moments old now _ _ leaves (λ c left. as_event s event reply entry new does enters c (subst (λ e. IsEither e entry c) is left))

-- an entry that has no room is the one that the event adds
pub lacks_room : {D : Type 0} (journal : JournalState D) (s : State) (event : Event) (found : Option Entry) → ((reply : Reply) (entry : Option Entry) (new : State) → Does s event reply entry new → found ≡ entry)
    → HasNoRoomFor journal s event → LacksEntryRoom journal.gate journal.generation s.durable found
lacks_room journal s event found only none = subst (LacksEntryRoom journal.gate journal.generation s.durable) (sym (only none.0 (Some none.1) none.2 none.3)) none.4

pub no_room_for : {D : Type 0} (journal : JournalState D) (s : State) (event : Event) (reply : Reply) (found : Option Entry) (new : State) → Does s event reply found new
    → LacksEntryRoom journal.gate journal.generation s.durable found → HasNoRoomFor journal s event
no_room_for journal s event reply None new does none = absurd none
no_room_for journal s event reply (Some entry) new does none = (reply, entry, new, does, none)

-- what the recording of an entry did to a journal
pub record IsRecorded {D : Type 0} {T : Type 0} (told : Type 0) (bytes_of : D → Sides) (images : D → Sides → Type 0) (faults : D → ℕ) (old new : JournalState D) (d : Durable) (entry : Option Entry) (recorded : Result T StoreFault) : Type 0 where
  pub idle : entry ≡ None → new ≡ old
  pub acknowledged : told → OnOk recorded ((c : Sides) → images new.disk c → Recovers c (entered_if d entry))
  pub reads : told → OnOk recorded (RecoversAt (bytes_of new.disk) new.side new.generation (entered_if d entry))
  pub sound : OnOk recorded (new.failed ≡ false)
  pub causes : (IsErrOf recorded SessionFull → ⊥) × (IsErrOf recorded Failed → ⊥)
  pub full : IsErrOf recorded JournalFull → LacksEntryRoom old.gate old.generation d entry
  pub refused : LacksEntryRoom old.gate old.generation d entry → OnOk recorded ⊥ × (IsErrOf recorded DiskFault → ⊥)
  pub fault : IsErrOf recorded DiskFault → Rose (faults old.disk) (faults new.disk)
  pub failed : OnErr recorded (((new ≡ old) × (IsErrOf recorded DiskFault → ⊥)) ⊎ (IsErrOf recorded DiskFault × (new.failed ≡ true)))

err_is : {T : Type 0} (fault other : StoreFault) → fault ≡ other → IsErrOf {T = T} {E = StoreFault} (Err fault) other
err_is fault other e = ap Err e

fault_is : {T : Type 0} (fault other : StoreFault) → IsErrOf {T = T} {E = StoreFault} (Err fault) other → fault ≡ other
fault_is fault other e = cc

module _ {D : Type 0} (told : Type 0) (bytes_of : D → Sides) (images : D → Sides → Type 0) (faults : D → ℕ) (old new : JournalState D) (s : State) (event : Event) (p : Ready) (known : IsPreparedFor s event p) where
  abbrev Outcome : State → Result Reply StoreFault → Type 0
  Outcome t result = MatchResult result (λ reply. IsDone told bytes_of images old new s t event reply) (λ fault. IsUndone faults old new s t event fault)

  -- the event, with what was recorded for it
  pub done : {T : Type 0} (ok : T) → IsRecorded told bytes_of images faults old new s.durable p.entry (Ok ok) → IsDone told bytes_of images old new s (changed_by p s) event p.reply
  done ok r = record {
    entry = p.entry;
    does = known.does;
    idle = r.idle;
    small = subst IsSmall (sym known.enters) known.small;
    orderly = known.orderly;
    next = known.next;
    sound = r.sound;
    reads = λ t. subst (RecoversAt (bytes_of new.disk) new.side new.generation) (sym known.enters) (r.reads t);
    stops = λ t c here. subst (Recovers c) (sym known.enters) (r.acknowledged t c here);
    room = λ none. (r.refused (lacks_room old s event p.entry known.only none)).0;
  }

  pub undone : {T : Type 0} (fault : StoreFault) → IsRecorded {T = T} told bytes_of images faults old new s.durable p.entry (Err fault) → IsUndone faults old new s s event fault
  undone fault r = record {
    same = refl;
    stays = ⊎_elim (λ w. inl (w.0, λ e. w.1 (err_is fault DiskFault e))) (λ w. inr (fault_is fault DiskFault w.0, w.1)) r.failed;
    first = λ e. r.causes.1 (err_is fault Failed e);
    light = λ e. r.causes.0 (err_is fault SessionFull e);
    full = λ e. no_room_for old s event p.reply p.entry (changed_by p s) known.does (r.full (err_is fault JournalFull e));
    room = λ none e. (r.refused (lacks_room old s event p.entry known.only none)).1 (err_is fault DiskFault e);
    rose = λ e. r.fault (err_is fault DiskFault e);
  }

  -- what was recorded took effect, or a fault was met
  pub finished : {T : Type 0} (recorded : Result T StoreFault) (result : Result Reply StoreFault) (t : State) → IsRecorded told bytes_of images faults old new s.durable p.entry recorded
      → MatchResult recorded (λ _. (result ≡ Ok p.reply) × (t ≡ changed_by p s)) (λ fault. (result ≡ Err fault) × (t ≡ s)) → Outcome t result
  finished (Ok ok) result t r commits = subst (Outcome t) (sym commits.0) (subst (λ u. Outcome u (Ok p.reply)) (sym commits.1) (done ok r))
  finished (Err fault) result t r commits = subst (Outcome t) (sym commits.0) (subst (λ u. Outcome u (Err fault)) (sym commits.1) (undone fault r))

-- nothing was prepared, so nothing changed
pub no_memory : {D : Type 0} (faults : D → ℕ) (journal : JournalState D) (s t : State) (event : Event) → t ≡ s → IsUndone faults journal journal s t event OutOfMemory
no_memory faults journal s t event same = record {
  same = same;
  stays = inl (refl, λ e. cc);
  first = λ e. cc;
  light = λ e. cc;
  full = λ e. cc;
  room = λ none e. cc;
  rose = λ e. cc;
}

-- so the answer is a fault
pub refused_for_memory : {D : Type 0} (told : Type 0) (bytes_of : D → Sides) (images : D → Sides → Type 0) (faults : D → ℕ) (journal : JournalState D) (s t : State) (event : Event) (result : Result Reply StoreFault) (fault : StoreFault)
    → result ≡ Err fault → fault ≡ OutOfMemory → t ≡ s → MatchResult result (λ reply. IsDone told bytes_of images journal journal s t event reply) (λ f. IsUndone faults journal journal s t event f)
refused_for_memory told bytes_of images faults journal s t event result fault is memory same =
    subst (λ r. MatchResult r (λ reply. IsDone told bytes_of images journal journal s t event reply) (λ f. IsUndone faults journal journal s t event f)) (sym is)
    (subst (λ f. IsUndone faults journal journal s t event f) (sym memory) (no_memory faults journal s t event same))
