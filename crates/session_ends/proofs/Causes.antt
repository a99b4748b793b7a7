-- What a session's status tells of the faults of its source, its sink and its disk.
use Rattle.std.proofs.Common.{◌≡◌, ◌⊎◌, inl, inr, ◌∙◌, sym, ap, subst, refl, ℕ, List, arith}
use Rattle.std.specs.Prelude.{Option, Some, IfSome}
use Rattle.outside.specs.Cause.{Rose}
use Rattle.outside.specs.Disk.{Sides}
use Rattle.sequent_core.specs.declared.Sequent.{Sequent}
use Rattle.sequent_core.specs.declared.Attempt.{Attempt}
use Rattle.core_steps.specs.declared.Durable.{Durable}
use Rattle.core_steps.specs.declared.Event.{Event}
use Rattle.core_steps.specs.State.{State}
use Rattle.core_steps.specs.Run.{Exchange}
use Rattle.store_log.specs.declared.StoreFault.{StoreFault}
use Rattle.store_log.specs.declared.StoreFault.TheVariants as fault
use Rattle.project_store.specs.declared.fault.KeptFault.{KeptFault}
use Rattle.project_store.specs.declared.fault.OpenFault.{OpenFault}
use Rattle.project_store.specs.declared.fault.OpenFault.TheVariants as opening
use Rattle.project_store.specs.Store.{StoreState, HasCauseOf}
use Rattle.session_streams.specs.Streams.{SourceState, Writing, SourceFailed, SinkFailed, WritesNothing}
use Rattle.session_ends.specs.Sessions.{EndsBy, read_to_its_end, inside_an_edit, at_read_fault, at_write_fault, with_full_input, at_store_fault, without_memory, Sessions}
use Rattle.session_ends.specs.Statuses.{IsSessionStatus, read_through, edit_left_open, reading_failed, writing_failed, disk_failed, no_project, limit_reached, no_memory, fault_status, opening_status, opening_line}
use Rattle.session_ends.specs.Written.{WritesOrFails}

known_fault : (f : StoreFault) → IsSessionStatus (fault_status f)
known_fault fault.SessionFull = limit_reached
known_fault fault.JournalFull = limit_reached
known_fault fault.OutOfMemory = no_memory
known_fault fault.DiskFault = disk_failed
known_fault fault.Failed = disk_failed

known_opening : (f : OpenFault) → IsSessionStatus (opening_status f)
known_opening (opening.Foreign side) = no_project
known_opening (opening.Damaged side at) = no_project
known_opening (opening.TableFull n) = limit_reached
known_opening opening.DiskFault = disk_failed
known_opening opening.OutOfMemory = no_memory

-- neither of these is the status 3 or 4
not_streams : (f : StoreFault) → ((fault_status f ≡ 3) ⊎ (fault_status f ≡ 4)) → ⊥
not_streams fault.SessionFull (inl e) = omega (arith, e)
not_streams fault.SessionFull (inr e) = omega (arith, e)
not_streams fault.JournalFull (inl e) = omega (arith, e)
not_streams fault.JournalFull (inr e) = omega (arith, e)
not_streams fault.OutOfMemory (inl e) = omega (arith, e)
not_streams fault.OutOfMemory (inr e) = omega (arith, e)
not_streams fault.DiskFault (inl e) = omega (arith, e)
not_streams fault.DiskFault (inr e) = omega (arith, e)
not_streams fault.Failed (inl e) = omega (arith, e)
not_streams fault.Failed (inr e) = omega (arith, e)

not_streams_opening : (f : OpenFault) → ((opening_status f ≡ 3) ⊎ (opening_status f ≡ 4)) → ⊥
not_streams_opening (opening.Foreign side) (inl e) = omega (arith, e)
not_streams_opening (opening.Foreign side) (inr e) = omega (arith, e)
not_streams_opening (opening.Damaged side at) (inl e) = omega (arith, e)
not_streams_opening (opening.Damaged side at) (inr e) = omega (arith, e)
not_streams_opening (opening.TableFull n) (inl e) = omega (arith, e)
not_streams_opening (opening.TableFull n) (inr e) = omega (arith, e)
not_streams_opening opening.DiskFault (inl e) = omega (arith, e)
not_streams_opening opening.DiskFault (inr e) = omega (arith, e)
not_streams_opening opening.OutOfMemory (inl e) = omega (arith, e)
not_streams_opening opening.OutOfMemory (inr e) = omega (arith, e)

-- only a fault of the disk in the start has the status 5
disk_opening : (f : OpenFault) → opening_status f ≡ 5 → f ≡ opening.DiskFault
disk_opening (opening.Foreign side) e = absurd (omega (arith, e))
disk_opening (opening.Damaged side at) e = absurd (omega (arith, e))
disk_opening (opening.TableFull n) e = absurd (omega (arith, e))
disk_opening opening.DiskFault e = refl
disk_opening opening.OutOfMemory e = absurd (omega (arith, e))

module _ (fair : Sequent → Attempt → Type 0) (workers : ℕ) (status : ℕ) (kept : Option KeptFault) (source : SourceState) (sink : Writing) (xs : List (ℕ × Exchange)) (s : State) where
  known_end : EndsBy fair workers status kept source sink xs s → IsSessionStatus status
  known_end (read_to_its_end is none how) = subst IsSessionStatus (sym is) read_through
  known_end (inside_an_edit is none how) = subst IsSessionStatus (sym is) edit_left_open
  known_end (at_read_fault is none how) = subst IsSessionStatus (sym is) reading_failed
  known_end (at_write_fault is none how) = subst IsSessionStatus (sym is) writing_failed
  known_end (with_full_input is none how) = subst IsSessionStatus (sym is) limit_reached
  known_end (at_store_fault k met is how) = subst IsSessionStatus (sym is) (known_fault k.fault)
  known_end (without_memory is how) = subst IsSessionStatus (sym is) no_memory

  read_end : status ≡ 3 → EndsBy fair workers status kept source sink xs s → SourceFailed source
  read_end three (read_to_its_end is none how) = absurd (omega (arith, is, three))
  read_end three (inside_an_edit is none how) = absurd (omega (arith, is, three))
  read_end three (at_read_fault is none e) = e.failed
  read_end three (at_write_fault is none how) = absurd (omega (arith, is, three))
  read_end three (with_full_input is none how) = absurd (omega (arith, is, three))
  read_end three (at_store_fault k met is how) = absurd (not_streams k.fault (inl (sym is ∙ three)))
  read_end three (without_memory is how) = absurd (omega (arith, is, three))

  write_end : status ≡ 4 → EndsBy fair workers status kept source sink xs s → SinkFailed sink
  write_end four (read_to_its_end is none how) = absurd (omega (arith, is, four))
  write_end four (inside_an_edit is none how) = absurd (omega (arith, is, four))
  write_end four (at_read_fault is none how) = absurd (omega (arith, is, four))
  write_end four (at_write_fault is none e) = e.failed
  write_end four (with_full_input is none how) = absurd (omega (arith, is, four))
  write_end four (at_store_fault k met is how) = absurd (not_streams k.fault (inr (sym is ∙ four)))
  write_end four (without_memory is how) = absurd (omega (arith, is, four))

  abbrev Kept : Type 0
  Kept = (k : KeptFault) × (kept ≡ Some k) × (fault_status k.fault ≡ 5)

  disk_end : status ≡ 5 → EndsBy fair workers status kept source sink xs s → Kept
  disk_end five (read_to_its_end is none how) = absurd (omega (arith, is, five))
  disk_end five (inside_an_edit is none how) = absurd (omega (arith, is, five))
  disk_end five (at_read_fault is none how) = absurd (omega (arith, is, five))
  disk_end five (at_write_fault is none how) = absurd (omega (arith, is, five))
  disk_end five (with_full_input is none how) = absurd (omega (arith, is, five))
  disk_end five (at_store_fault k met is how) = (k, met, sym is ∙ five)
  disk_end five (without_memory is how) = absurd (omega (arith, is, five))

disk_cause : {D : Type 0} (faults : D → ℕ) (st : StoreState D) (f : StoreFault) (event : Event) → fault_status f ≡ 5 → HasCauseOf faults st f event → Rose st.count (faults st.journal.disk)
disk_cause faults st fault.SessionFull event e cause = absurd (omega (arith, e))
disk_cause faults st fault.JournalFull event e cause = absurd (omega (arith, e))
disk_cause faults st fault.OutOfMemory event e cause = absurd (omega (arith, e))
disk_cause faults st fault.DiskFault event e cause = cause
disk_cause faults st fault.Failed event e cause = absurd cause

module _ {D : Type 0} (told : Type 0) (bytes_of : D → Sides) (images : D → Sides → Type 0) (clock : D → ℕ) (moments : D → ℕ → Sides → Type 0) (faults : D → ℕ)
    (fair : Sequent → Attempt → Type 0) (sure : Sequent → Type 0) (workers : ℕ) (old new : D) (untouched : Type 0) (source : SourceState) (sink : Writing) (status : ℕ) (history : List (ℕ × Event)) (last : Durable) where
  abbrev Ran : Type 0
  Ran = Sessions told bytes_of images clock moments faults fair sure workers old new untouched source sink status history last

  abbrev Told : OpenFault → Type 0
  Told f = ((status ≡ opening_status f) × WritesOrFails sink (opening_line f)) ⊎ ((status ≡ 9) × WritesNothing sink)

  pub known : Ran → IsSessionStatus status
  known (inl r) = refused r.ends where
    refused : Told r.fault → IsSessionStatus status
    refused (inl (is, w)) = subst IsSessionStatus (sym is) (known_opening r.fault)
    refused (inr (is, w)) = subst IsSessionStatus (sym is) no_memory
  known (inr p) = known_end fair workers status p.store.kept source sink p.xs p.store.core p.ends

  pub read_fault : Ran → status ≡ 3 → SourceFailed source
  read_fault (inl r) three = refused r.ends where
    refused : Told r.fault → SourceFailed source
    refused (inl (is, w)) = absurd (not_streams_opening r.fault (inl (sym is ∙ three)))
    refused (inr (is, w)) = absurd (omega (arith, is, three))
  read_fault (inr p) three = read_end fair workers status p.store.kept source sink p.xs p.store.core three p.ends

  pub write_fault : Ran → status ≡ 4 → SinkFailed sink
  write_fault (inl r) four = refused r.ends where
    refused : Told r.fault → SinkFailed sink
    refused (inl (is, w)) = absurd (not_streams_opening r.fault (inr (sym is ∙ four)))
    refused (inr (is, w)) = absurd (omega (arith, is, four))
  write_fault (inr p) four = write_end fair workers status p.store.kept source sink p.xs p.store.core four p.ends

  pub disk_fault : Ran → status ≡ 5 → Rose (faults old) (faults new)
  disk_fault (inl r) five = refused r.ends where
    refused : Told r.fault → Rose (faults old) (faults new)
    refused (inl (is, w)) = r.refuses.disk_fault (disk_opening r.fault (sym is ∙ five))
    refused (inr (is, w)) = absurd (omega (arith, is, five))
  disk_fault (inr p) five =
      let k = disk_end fair workers status p.store.kept source sink p.xs p.store.core five p.ends in
      let cause : HasCauseOf faults p.store k.0.fault k.0.act.1 = subst (λ z. IfSome z (λ y. HasCauseOf faults p.store y.fault y.act.1)) k.1 p.cause in
      let rose : Rose p.store.count (faults p.store.journal.disk) = disk_cause faults p.store k.0.fault k.0.act.1 k.2 cause in
      subst (λ (z : ℕ × ℕ). Rose z.0 z.1) (λ i. (p.opens.counted i, ap faults (sym p.disk) i)) rose
