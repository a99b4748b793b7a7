-- What an act that was done, or met a fault, means to a caller.
use Rattle.std.proofs.Common.{◌≡◌, ◌⊎◌, ◌↔◌, ⊎_elim, inl, inr, ap, refl, ℕ, Some, None, [], ◌∷◌, ◌++◌}
use Rattle.std.specs.Prelude.{Result, Ok, Err, MatchResult, IfOk, OnOk, OnErr, IsErrOf}
use Rattle.outside.specs.Cause.{Rose}
use Rattle.outside.specs.Disk.{Sides}
use Rattle.core_steps.specs.declared.events.Event.{Event}
use Rattle.core_steps.specs.declared.events.Reply.{Reply}
use Rattle.core_steps.specs.State.{State}
use Rattle.store_log.specs.declared.fault.StoreFault.{StoreFault}
use Rattle.store_log.specs.declared.fault.StoreFault.TheVariants.{Failed, SessionFull, OutOfMemory, JournalFull, DiskFault}
use Rattle.project_store.specs.declared.fault.KeptFault.{KeptFault}
use Rattle.project_store.specs.Records.{Recovers}
use Rattle.project_store.specs.Private.{IsActed, IsStopped}
use Rattle.project_store.specs.Store.{StoreState, Performs, met, again, IsDiskFault, IsImage, IsImageAfter, IsTooHeavy, HasNoRoomFor}

err_at : (fault other : StoreFault) → fault ≡ other → IsErrOf {T = Reply} {E = StoreFault} (Err fault) other
err_at fault other e = ap Err e

fault_at : (fault other : StoreFault) → IsErrOf {T = Reply} {E = StoreFault} (Err fault) other → fault ≡ other
fault_at fault other e = cc

-- the clauses of an act that was tried
pub record IsApplied {D : Type 0} (told : Type 0) (images : D → Sides → Type 0) (faults : D → ℕ) (old new : StoreState D) (chair : ℕ) (event : Event) (result : Result Reply StoreFault) : Type 0 where
  pub step : IfOk result (λ reply. Performs old event reply new)
  pub noted : OnOk result (new.history ≡ old.history ++ (chair, event) ∷ [])
  pub same : OnErr result ((new.core ≡ old.core) × (new.history ≡ old.history))
  pub acknowledged : told → OnOk result ((c : Sides) → images new.journal.disk c → Recovers c new.core.durable)
  pub first : IsErrOf result Failed → ⊥
  pub heavy : IsErrOf result SessionFull ↔ IsTooHeavy old.history event
  pub full : IsErrOf result JournalFull → HasNoRoomFor old.journal old.core event
  pub no_room : HasNoRoomFor old.journal old.core event → OnOk result ⊥ × (IsErrOf result DiskFault → ⊥)
  pub fault : IsErrOf result DiskFault → Rose (faults old.journal.disk) (faults new.journal.disk)
  pub untouched : OnErr result (IsErrOf result DiskFault ⊎ (new.journal ≡ old.journal))
  pub kept : MatchResult result (λ _. new.kept ≡ None) (λ fault. new.kept ≡ Some (met fault chair event))

module _ {D : Type 0} (told : Type 0) (images : D → Sides → Type 0) (faults : D → ℕ) (old new : StoreState D) (chair : ℕ) (event : Event) where
  from_acted : (reply : Reply) → IsActed told images old new chair event reply → IsApplied told images faults old new chair event (Ok reply)
  from_acted reply a = record {
    step = a.step;
    noted = a.noted;
    same = tt;
    acknowledged = a.stops;
    first = λ e. cc;
    heavy = (λ e. cc, λ heavy. absurd (a.light heavy));
    full = λ e. cc;
    no_room = λ none. absurd (a.room none);
    fault = λ e. cc;
    untouched = tt;
    kept = a.sound;
  }

  from_stopped : (fault : StoreFault) → IsStopped faults old new chair event fault → IsApplied told images faults old new chair event (Err fault)
  from_stopped fault u = record {
    step = tt;
    noted = tt;
    same = (u.core, u.history);
    acknowledged = λ t. tt;
    first = λ e. u.first (fault_at fault Failed e);
    heavy = (λ e. u.heavy (fault_at fault SessionFull e), λ heavy. err_at fault SessionFull (u.light heavy));
    full = λ e. u.full (fault_at fault JournalFull e);
    no_room = λ none. (tt, λ e. u.room none (fault_at fault DiskFault e));
    fault = λ e. u.rose (fault_at fault DiskFault e);
    untouched = ⊎_elim (λ e. inl (err_at fault DiskFault e)) (λ same. inr same) u.untouched;
    kept = u.kept;
  }

  pub applied : (result : Result Reply StoreFault) → MatchResult result (λ reply. IsActed told images old new chair event reply) (λ fault. IsStopped faults old new chair event fault) → IsApplied told images faults old new chair event result
  applied (Ok reply) a = from_acted reply a
  applied (Err fault) u = from_stopped fault u

-- what a stop leaves after a fault that isn't one of the disk
durable_after : (s : State) (fault : StoreFault) (event : Event) (c : Sides) → (fault ≡ DiskFault → ⊥) → IsImageAfter s fault event c → Recovers c s.durable
durable_after s Failed event c other here = here
durable_after s SessionFull event c other here = here
durable_after s OutOfMemory event c other here = here
durable_after s JournalFull event c other here = here
durable_after s DiskFault event c other here = absurd (other refl)

pub image_after : (s : State) (kept : KeptFault) (c : Sides) → (IsDiskFault (Some kept) → ⊥) → IsImage s (Some kept) c → Recovers c s.durable
image_after s kept c other here = durable_after s kept.fault kept.act.1 c other here

-- what a call answers after a fault is no fault of the disk
pub never_again : (fault : StoreFault) → IsErrOf {T = Reply} {E = StoreFault} (Err (again fault)) DiskFault → ⊥
never_again Failed e = cc
never_again SessionFull e = cc
never_again OutOfMemory e = cc
never_again JournalFull e = cc
never_again DiskFault e = cc
