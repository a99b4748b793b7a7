-- A session that nothing hinders ends with its whole answer, or inside an edit, or for want of memory.
use Rattle.std.proofs.Common.{◌≡◌, ◌⊎◌, inl, inr, ◌∙◌, sym, ap, subst, refl, ℕ, ◌+◌, ◌^◌, ◌<◌, ◌≤◌, List, ◌++◌, length, length-append, arith}
use Rattle.std.specs.Prelude.{Option, Some, None, IfSome}
use Rattle.std.specs.Io.KnownBytes.{Consumes}
use Rattle.outside.specs.Disk.{Sides}
use Rattle.outside.specs.Cause.{Rose}
use Rattle.outside.specs.declared.side.Side.{Side}
use Rattle.journal_core.specs.State.{IsAtRest}
use Rattle.sequent_core.specs.declared.Sequent.{Sequent}
use Rattle.sequent_core.specs.declared.Attempt.{Attempt}
use Rattle.core_steps.specs.declared.durable.Durable.{Durable}
use Rattle.core_steps.specs.declared.events.Event.{Event}
use Rattle.core_steps.specs.Table.{IsTooLarge}
use Rattle.core_steps.specs.State.{opened}
use Rattle.core_steps.specs.Run.{Runs}
use Rattle.store_log.specs.History.{exchanges_of}
use Rattle.store_log.specs.declared.fault.StoreFault.{StoreFault}
use Rattle.store_log.specs.declared.fault.StoreFault.TheVariants as fault
use Rattle.project_store.specs.declared.fault.KeptFault.{KeptFault}
use Rattle.project_store.specs.declared.fault.OpenFault.{OpenFault}
use Rattle.project_store.specs.declared.fault.OpenFault.TheVariants as opening
use Rattle.project_store.specs.Opening.{durable, foreign, damaged, IsAnswerFor}
use Rattle.project_store.specs.Store.{HasCauseOf, IsDiskFault, IsTooHeavy}
use Rattle.session_run.specs.OneHistory.{IsFailedEvent}
use Rattle.session_streams.specs.Streams.{SourceState, Writing, WritesNothing}
use Rattle.session_ends.specs.Ends.{HasReached}
use Rattle.session_ends.specs.Sessions.{IsRefused, IsSession, Sessions, EndsBy, read_to_its_end, inside_an_edit, at_read_fault, at_write_fault, with_full_input, at_store_fault, without_memory}
use Rattle.session_ends.specs.Statuses.{fault_status, opening_status, opening_line}
use Rattle.session_ends.specs.Written.{WritesOrFails}
use Rattle.session_ends.specs.Limits.{MayComeNext, LacksRoomForEntry, IsUnhindered, IsUnfailedSessionStatus, session_whole, session_inside_an_edit, session_without_memory}

none_is_none : (input : List ℕ) → None ≡ Some input → ⊥
none_is_none input same = cc

-- what was taken of known bytes is no longer than they are
taken_within : (left left_then : Option (List ℕ)) (taken input : List ℕ) → left ≡ Some input → Consumes left left_then taken → length taken ≤ length input
taken_within None left_then taken input tells takes = absurd (none_is_none input tells)
taken_within (Some xs) None taken input tells takes = absurd takes
taken_within (Some xs) (Some ys) taken input tells takes =
    let all : xs ≡ taken ++ ys = takes in
    let same : input ≡ xs = cc in
    omega (arith, ap length same, ap length all, length-append taken ys)

other_fault : fault.JournalFull ≡ fault.DiskFault → ⊥
other_fault same = cc

durable_is : (d e : Durable) → durable d ≡ durable e → d ≡ e
durable_is d e same = cc

not_foreign : (d : Durable) (side : Side) → durable d ≡ foreign side → ⊥
not_foreign d side same = cc

not_damaged : (d : Durable) (side : Side) (gate : ℕ) → durable d ≡ damaged side gate → ⊥
not_damaged d side gate same = cc

module _ {D : Type 0} (told : Type 0) (bytes_of : D → Sides) (images : D → Sides → Type 0) (clock : D → ℕ) (moments : D → ℕ → Sides → Type 0) (faults : D → ℕ)
    (fair : Sequent → Attempt → Type 0) (sure : Sequent → Type 0)
    (workers : ℕ) (old new : D) (untouched : Type 0) (source : SourceState) (sink : Writing) (status : ℕ) (history : List (ℕ × Event)) (last : Durable)
    (tells : told) (free : IsUnhindered bytes_of images faults fair old new source sink history) where
  abbrev Unfailed : Type 0
  Unfailed = IsUnfailedSessionStatus status

  -- A project that stands there and fits isn't refused but for want of memory.

  refused_for : (f : OpenFault) → IsAnswerFor (durable free.base) f → (f ≡ opening.DiskFault → Rose (faults old) (faults new)) → status ≡ opening_status f → Unfailed
  refused_for (opening.Foreign side) answer rose is = absurd (not_foreign free.base side answer)
  refused_for (opening.Damaged side gate) answer rose is = absurd (not_damaged free.base side gate answer)
  refused_for (opening.TableFull n) answer rose is =
      absurd (free.fits n (subst (λ (d : Durable). IsTooLarge d.built n) (sym (durable_is free.base answer.0 answer.1)) answer.2))
  refused_for opening.DiskFault answer rose is = absurd (free.keeps (rose refl))
  refused_for opening.OutOfMemory answer rose is = session_without_memory is

  refused : IsRefused told bytes_of images clock moments faults old new untouched sink status history last → Unfailed
  refused r = by r.ends where
    by : ((status ≡ opening_status r.fault) × WritesOrFails sink (opening_line r.fault)) ⊎ ((status ≡ 9) × WritesNothing sink) → Unfailed
    by (inl (is, written)) = refused_for r.fault (r.refuses.exactly tells (durable free.base) free.stands) r.refuses.disk_fault is
    by (inr (is, unwritten)) = session_without_memory is

  module _ (p : IsSession told bytes_of images clock moments faults fair sure workers old new source sink status history last) where
    opened_base : p.store.base ≡ free.base
    opened_base = sym (durable_is free.base p.store.base (p.opens.exactly tells (durable free.base) free.stands))

    next : (event : Event) (reached : HasReached fair source p.xs) → IsFailedEvent fair 1 (λ user. reached.begun) p.store.core event → MayComeNext fair free.base source history p.store.core event
    next event reached failed = record {
      xs = p.xs;
      events = p.plays.events;
      run = subst (λ (d : Durable). Runs (opened d) (exchanges_of p.xs) p.store.core) opened_base p.plays.run;
      reached = reached;
      next = failed;
    }

    -- of the faults of a store want of memory alone is left
    met : (k : KeptFault) → p.store.kept ≡ Some k → MayComeNext fair free.base source history p.store.core k.act.1 →
        (f : StoreFault) → f ≡ k.fault → HasCauseOf faults p.store f k.act.1 → status ≡ fault_status f → Unfailed
    met k is comes fault.SessionFull same cause status_is =
        absurd (free.light p.store.core k.act.1 comes (subst (λ (h : List (ℕ × Event)). IsTooHeavy h k.act.1) p.events cause))
    met k is comes fault.JournalFull same cause status_is = absurd (free.roomy p.store.core k.act.1 comes room) where
      no_disk_fault : IsDiskFault p.store.kept → ⊥
      no_disk_fault h = other_fault (same ∙ subst IsDiskFault is h)

      at_rest : (p.store.journal.gate < 67108864) × (p.store.journal.generation < 2 ^ 64)
          × IsAtRest (bytes_of p.store.journal.disk) (images p.store.journal.disk) p.store.journal.side p.store.journal.gate p.store.journal.generation p.store.journal.rest_open
      at_rest = p.rests tells no_disk_fault

      room : LacksRoomForEntry bytes_of images new p.store.core k.act.1
      room = record {
        side = p.store.journal.side;
        gate = p.store.journal.gate;
        generation = p.store.journal.generation;
        rest_open = p.store.journal.rest_open;
        within = at_rest.0;
        number = at_rest.1;
        rests = subst (λ (disk : D). IsAtRest (bytes_of disk) (images disk) p.store.journal.side p.store.journal.gate p.store.journal.generation p.store.journal.rest_open) (sym p.disk) at_rest.2;
        reply = cause.0;
        entry = cause.1;
        new = cause.2;
        does = cause.3;
        full = cause.4;
      }
    met k is comes fault.OutOfMemory same cause status_is = session_without_memory status_is
    met k is comes fault.DiskFault same cause status_is =
        absurd (free.keeps (subst (λ (z : ℕ × ℕ). Rose z.0 z.1) (λ i. (p.opens.counted i, ap faults (sym p.disk) i)) cause))
    met k is comes fault.Failed same cause status_is = absurd cause

    ended : EndsBy fair workers status p.store.kept source sink p.xs p.store.core → Unfailed
    ended (read_to_its_end is none how) = session_whole is
    ended (inside_an_edit is none how) = session_inside_an_edit is
    ended (at_read_fault is none how) = absurd (free.reads how.failed)
    ended (at_write_fault is none how) = absurd (free.writes how.failed)
    ended (with_full_input is none how) =
        absurd (omega (arith, free.short, how.full, taken_within source.left source.left_then how.answered.taken free.input free.tells how.answered.read.takes))
    ended (at_store_fault k is status_is how) =
        met k is (next k.act.1 how.reached how.failed) k.fault refl (subst (λ (z : Option KeptFault). IfSome z (λ y. HasCauseOf faults p.store y.fault y.act.1)) is p.cause) status_is
    ended (without_memory is how) = session_without_memory is

  pub completes : Sessions told bytes_of images clock moments faults fair sure workers old new untouched source sink status history last → Unfailed
  completes (inl r) = refused r
  completes (inr p) = ended p p.ends
