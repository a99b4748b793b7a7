-- How the session ended, by its commands and the first fault of the store.
use Rattle.std.proofs.Common.{◌≡◌, ◌≢◌, inl, inr, ap, refl, ℕ, ◌≤◌, Bool, List, [], ◌++◌, take}
use Rattle.std.specs.Prelude.{Option, Some, None, IfSome}
use Rattle.std.specs.Option.{option_map}
use Rattle.sequent_core.specs.declared.Sequent.{Sequent}
use Rattle.sequent_core.specs.declared.Attempt.{Attempt}
use Rattle.core_steps.specs.declared.Event.{Event}
use Rattle.core_steps.specs.State.{State}
use Rattle.core_steps.specs.Run.{Exchange}
use Rattle.session_lines.specs.declared.Command.{Command}
use Rattle.session_words.specs.declared.Line.{Line}
use Rattle.turn_desk.specs.Log.{HasSeen}
use Rattle.store_log.specs.declared.Logged.{Logged}
use Rattle.store_log.specs.declared.StoreBase.{StoreBase}
use Rattle.store_log.specs.StoreLog.{chair_of, IsStoreLog}
use Rattle.project_store.specs.declared.fault.KeptFault.{KeptFault}
use Rattle.project_store.specs.Store.{mark_in}
use Rattle.session_run.specs.Dialogue.{Next, asks, owes, tells}
use Rattle.session_run.specs.OneHistory.{IsFailedEvent}
use Rattle.session_run.specs.Talking.{IsNext, HasTalked}
use Rattle.session_run.specs.Workers.{HaveFinished}
use Rattle.session_run.proofs.Runs.{CoreLaws}
use Rattle.session_streams.specs.declared.ReadEnd.TheVariants.{Ended, ReadFault, FullInput, OutOfMemory}
use Rattle.session_streams.specs.Reads.{HasRead}
use Rattle.session_streams.specs.Streams.{SourceState, Writing, writing, Writes}
use Rattle.session_talk.specs.declared.Ending.{Ending}
use Rattle.session_talk.specs.declared.Ending.TheVariants.{Read, Quit, CutEdit, WriteFault, OutOfMemory as Untold, Store}
use Rattle.session_ends.specs.Ends.{HasAnswered, IsReadOut, to_its_end, to_a_fault, to_its_limit, to_quit, to_a_cut_edit, EndsAtStoreFault, EndsWithoutMemory}
use Rattle.session_ends.specs.Sessions.{EndsBy, read_to_its_end, inside_an_edit, at_read_fault, at_write_fault, with_full_input, at_store_fault, without_memory}
use Rattle.session_ends.specs.Statuses.{fault_status, store_fault_line}
use Rattle.session_ends.specs.Private.{end_status, end_line, status_at, ending_line}
use Rattle.session_ends.specs.Written.{WritesThen, WritesOrFails, WritesAt, WritesUpTo}
use Rattle.session_ends.proofs.CutEdits.{cut_at_end}
use Rattle.session_ends.proofs.Standing.{stopped}
use Rattle.session_ends.proofs.Closing.{Over, Came, answered, came, not_stopped, then_line, then_nothing, rose_then, then_cut}

-- what of a line comes next is no text, so the texts are those of the lines before
then_next : (fair : Sequent → Attempt → Type 0) (sink : Writing) (text line : List ℕ) (next : Next) (event : Event) → IsNext fair next event → WritesThen sink text line → WritesAt next sink text line
then_next fair sink text line (asks e) event is w = w
then_next fair sink text line (owes t) event is w = w
then_next fair sink text line (tells said) event is w = absurd is

some_none : {X : Type 0} {a : X} → Some a ≡ None → ⊥
some_none e = cc

if_failed : (kept : Option KeptFault) (P : Event → Type 0) → ((chair : ℕ) (event : Event) → mark_in kept ≡ Some (chair, event) → P event) → IfSome (option_map (λ k. k.act.1) kept) P
if_failed None P failed = tt
if_failed (Some k) P failed = failed k.act.0 k.act.1 refl

module _ (laws : CoreLaws) (fair : Sequent → Attempt → Type 0) (workers : ℕ) (base : StoreBase) (log : List Logged) (xs : List (ℕ × Exchange)) (kept : Option KeptFault) (s : State)
    (store : IsStoreLog base log xs (mark_in kept) s) (seen : List Logged) (has : HasSeen chair_of 0 seen log) (source : SourceState)
    (before after_ last : Option (List ℕ)) (f g h : ℕ) (low : f ≤ g) (high : g ≤ h)
    (taken : List ℕ) (ended : Bool) (lines : List Line) (left : List Command) (text : List ℕ) (read : HasRead source.left source.left_then taken ended lines left) where
  abbrev Overs : Ending → Type 0
  Overs ending = Over laws fair base log xs (mark_in kept) s store seen has source (writing before after_ f g) taken ended lines left text read ending

  abbrev comes : (ending : Ending) → Overs ending → Came laws fair base log xs (mark_in kept) s store seen has source (writing before after_ f g) taken ended lines left text read
  comes ending over = came laws fair base log xs (mark_in kept) s store seen has source (writing before after_ f g) taken ended lines left text read ending over

  abbrev all : HasTalked fair base 0 seen lines text → HasAnswered fair source xs
  all = answered laws fair base log xs (mark_in kept) s store seen has source (writing before after_ f g) taken ended lines left text read

  abbrev Wrote : List ℕ → Type 0
  Wrote line = WritesOrFails (writing after_ last g h) line

  abbrev sink : Writing
  sink = writing before last f h

  abbrev line_then : (line : List ℕ) → Writes (writing before after_ f g) text → Wrote line → WritesThen sink text line
  line_then = then_line before after_ last f g h low high text

  abbrev nothing_then : (said : List ℕ) → Writes (writing before after_ f g) said → Wrote [] → Writes sink said
  nothing_then = then_nothing before after_ last f g h low high

  -- A FAULT OF THE STORE

  abbrev Failed : (ending : Ending) → Overs ending → Type 0
  Failed ending over = (chair : ℕ) (event : Event) → mark_in kept ≡ Some (chair, event) → IsFailedEvent fair 1 (λ user. (comes ending over).reach.begun) s event

  written_at : (line : List ℕ) (ending : Ending) (over : Overs ending) → ending ≢ Untold → Wrote line →
      WritesUpTo (comes ending over).reach.begun sink (comes ending over).reach.text line
  written_at line (Read end) over other w = line_then line over.1 w
  written_at line Quit over other w = line_then line over.1 w
  written_at line CutEdit over other w = line_then line over.1 w
  written_at line WriteFault (answers, said, next, t, rose, (n, front)) other w =
      (rose_then before after_ last f g h low high rose, then_cut before after_ last f g h low high text said line n front w)
  written_at line Untold over other w = absurd (other refl)
  written_at line (Store fault) (answers, next, t, writes) other w =
      let q = stopped laws fair base log xs (mark_in kept) s store seen lines text answers t has in
      then_next fair sink text line q.next q.waits.0 q.waits.1 (line_then line writes w)

  -- where no line was begun, none is left, or the next one ends the session
  read_out : (ending : Ending) (over : Overs ending) → ending ≢ Untold → ending ≢ Read OutOfMemory → (comes ending over).reach.begun ≡ None →
      IsReadOut source (comes ending over).reach.taken (comes ending over).reach.ended (comes ending over).reach.left
  read_out (Read Ended) (t, writes, why) other able none = to_its_end why.0 why.1
  read_out (Read ReadFault) (t, writes, (rose, open_, nothing)) other able none = to_a_fault rose open_ nothing
  read_out (Read FullInput) (t, writes, (full, open_, nothing)) other able none = to_its_limit full open_ nothing
  read_out (Read OutOfMemory) over other able none = absurd (able refl)
  read_out Quit (t, writes, next) other able none = to_quit next
  read_out CutEdit (t, writes, next) other able none = to_a_cut_edit next
  read_out WriteFault (line, said, next, t, rose, front) other able none = absurd (some_none none)
  read_out Untold over other able none = absurd (other refl)
  read_out (Store fault) (line, next, t, writes) other able none = absurd (some_none none)

  by_fault : (k : KeptFault) → kept ≡ Some k → (ending : Ending) (over : Overs ending) → ending ≢ Untold → ending ≢ Read OutOfMemory → Failed ending over →
      Wrote (store_fault_line k.fault) → EndsAtStoreFault fair workers source sink xs k.act.1 (store_fault_line k.fault) s
  by_fault k is ending over other able failed w = record {
    reached = (comes ending over).reach;
    failed = failed k.act.0 k.act.1 (ap mark_in is);
    over = read_out ending over other able;
    written = written_at (store_fault_line k.fault) ending over other w;
  }

  -- WANT OF MEMORY

  abbrev WithoutMemory : Type 0
  WithoutMemory = EndsWithoutMemory fair workers source sink xs (option_map (λ k. k.act.1) kept) s

  no_line_read : (over : Overs (Read OutOfMemory)) → Failed (Read OutOfMemory) over → Wrote [] → WithoutMemory
  no_line_read over failed w = record {
    reached = (comes (Read OutOfMemory) over).reach;
    done = tt;
    failed = if_failed kept (IsFailedEvent fair 1 (λ user. (comes (Read OutOfMemory) over).reach.begun) s) failed;
    written = nothing_then text over.1 w;
  }

  not_told : (over : Overs Untold) → Failed Untold over → Wrote [] → WithoutMemory
  not_told (line, said, next, t, writes) failed w = record {
    reached = (comes Untold (line, said, next, t, writes)).reach;
    done = (said, refl);
    failed = if_failed kept (IsFailedEvent fair 1 (λ user. (comes Untold (line, said, next, t, writes)).reach.begun) s) failed;
    written = nothing_then text writes w;
  }

  -- ALL ENDINGS

  abbrev By : ℕ → Type 0
  By status = EndsBy fair workers status kept source sink xs s

  abbrev lacking : WithoutMemory → By 9
  lacking e = without_memory refl e

  abbrev faulted : (k : KeptFault) → kept ≡ Some k → EndsAtStoreFault fair workers source sink xs k.act.1 (store_fault_line k.fault) s → By (fault_status k.fault)
  faulted k is e = at_store_fault k is refl e

  -- no fault of the store
  pub by_none : kept ≡ None → HaveFinished fair 1 workers xs → (ending : Ending) (over : Overs ending) → Failed ending over → Wrote (end_line ending) → By (end_status ending)
  by_none none finished (Read Ended) (t, writes, why) failed w =
      read_to_its_end refl none (record { answered = all t; finished = finished; over = inl why; written = nothing_then text writes w })
  by_none none finished Quit (t, writes, next) failed w =
      read_to_its_end refl none (record { answered = all t; finished = finished; over = inr next; written = nothing_then text writes w })
  by_none none finished CutEdit (t, writes, next) failed w = inside_an_edit refl none (record {
    answered = all t;
    finished = finished;
    over = (cut_at_end (take 67108864 taken) ended read.given left read.in_order next, next);
    written = line_then (end_line CutEdit) writes w;
  })
  by_none none finished (Read ReadFault) (t, writes, (rose, open_, nothing)) failed w = at_read_fault refl none (record {
    failed = rose;
    answered = all t;
    finished = finished;
    over = (open_, nothing);
    written = line_then (end_line (Read ReadFault)) writes w;
  })
  by_none none finished WriteFault (line, said, next, t, rose, (n, front)) failed w = at_write_fault refl none (record {
    failed = rose_then before after_ last f g h low high rose;
    reached = (comes WriteFault (line, said, next, t, rose, (n, front))).reach;
    finished = finished;
    line = line;
    said = said;
    over = refl;
    front = n;
    written = nothing_then (text ++ take n said) front w;
  })
  by_none none finished (Read FullInput) (t, writes, (full, open_, nothing)) failed w = with_full_input refl none (record {
    answered = all t;
    finished = finished;
    full = full;
    over = (open_, nothing);
    written = line_then (end_line (Read FullInput)) writes w;
  })
  by_none none finished (Read OutOfMemory) over failed w = lacking (no_line_read over failed w)
  by_none none finished Untold over failed w = lacking (not_told over failed w)
  by_none none finished (Store fault) over failed w =
      absurd (not_stopped laws fair base log xs (mark_in kept) s store seen has source (writing before after_ f g) taken ended lines left text read fault over (ap mark_in none))

  -- a fault of the store, before all but want of memory
  pub by_some : (k : KeptFault) → kept ≡ Some k → (ending : Ending) (over : Overs ending) → Failed ending over → Wrote (ending_line ending (Some k.fault)) → By (status_at ending (Some k.fault))
  by_some k is (Read Ended) over failed w = faulted k is (by_fault k is (Read Ended) over (λ e. cc) (λ e. cc) failed w)
  by_some k is (Read ReadFault) over failed w = faulted k is (by_fault k is (Read ReadFault) over (λ e. cc) (λ e. cc) failed w)
  by_some k is (Read FullInput) over failed w = faulted k is (by_fault k is (Read FullInput) over (λ e. cc) (λ e. cc) failed w)
  by_some k is (Read OutOfMemory) over failed w = lacking (no_line_read over failed w)
  by_some k is Quit over failed w = faulted k is (by_fault k is Quit over (λ e. cc) (λ e. cc) failed w)
  by_some k is CutEdit over failed w = faulted k is (by_fault k is CutEdit over (λ e. cc) (λ e. cc) failed w)
  by_some k is WriteFault over failed w = faulted k is (by_fault k is WriteFault over (λ e. cc) (λ e. cc) failed w)
  by_some k is Untold over failed w = lacking (not_told over failed w)
  by_some k is (Store other) over failed w = faulted k is (by_fault k is (Store other) over (λ e. cc) (λ e. cc) failed w)
