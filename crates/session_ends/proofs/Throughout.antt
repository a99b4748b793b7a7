-- What a stop at any moment of a session left, from what the session tells of its store.
use Rattle.std.proofs.Common.{◌≡◌, ◌⊎◌, inl, inr, ◌∙◌, sym, subst, refl, ℕ, List, []}
use Rattle.std.proofs.lemmas.List.{append-nil}
use Rattle.std.specs.Prelude.{Option, Some, None, IfSome}
use Rattle.std.specs.Option.{option_map}
use Rattle.outside.specs.Disk.{Sides, LeavesOnly}
use Rattle.sequent_core.specs.declared.Sequent.{Sequent}
use Rattle.sequent_core.specs.declared.Attempt.{Attempt}
use Rattle.core_steps.specs.declared.durable.Durable.{Durable}
use Rattle.core_steps.specs.declared.events.Event.{Event}
use Rattle.core_steps.specs.State.{State}
use Rattle.store_log.specs.declared.fault.StoreFault.{StoreFault}
use Rattle.store_log.specs.declared.fault.StoreFault.TheVariants as fault
use Rattle.project_store.specs.declared.fault.KeptFault.{KeptFault}
use Rattle.project_store.specs.Moments.{StandsAtFront, StoodWithin}
use Rattle.project_store.specs.Records.{Recovers}
use Rattle.project_store.specs.Store.{IsImage, IsImageAfter, IsBeforeOrAfter}
use Rattle.project_store.proofs.Moments.{weaken}
use Rattle.session_run.specs.OneHistory.{IsFailedEvent}
use Rattle.session_streams.specs.Streams.{SourceState, Writing}
use Rattle.session_ends.specs.Limits.{MayComeNext}
use Rattle.session_ends.specs.Moments.{StandsAfterNext, IsLeftWithin}
use Rattle.session_ends.specs.Sessions.{IsSession, Sessions, EndsBy, read_to_its_end, inside_an_edit, at_read_fault, at_write_fault, with_full_input, at_store_fault, without_memory}

none_is_none : (kept : Option KeptFault) (k : KeptFault) → kept ≡ None → kept ≡ Some k → ⊥
none_is_none kept k none some = let wrong : None ≡ Some k = sym none ∙ some in cc

one_fault : (kept : Option KeptFault) (j k : KeptFault) → kept ≡ Some j → kept ≡ Some k → j ≡ k
one_fault kept j k first second = let same : Some j ≡ Some k = sym first ∙ second in cc

-- after any fault a stop leaves what stood before the event, or what stands after its entry
before_or_after : (s : State) (f : StoreFault) (event : Event) (c : Sides) → IsImageAfter s f event c → IsBeforeOrAfter s event c
before_or_after s fault.Failed event c here = inl here
before_or_after s fault.SessionFull event c here = inl here
before_or_after s fault.OutOfMemory event c here = inl here
before_or_after s fault.JournalFull event c here = inl here
before_or_after s fault.DiskFault event c here = here

module _ {D : Type 0} (told : Type 0) (bytes_of : D → Sides) (images : D → Sides → Type 0) (clock : D → ℕ) (moments : D → ℕ → Sides → Type 0) (faults : D → ℕ)
    (fair : Sequent → Attempt → Type 0) (sure : Sequent → Type 0)
    (workers : ℕ) (old new : D) (untouched : Type 0) (source : SourceState) (sink : Writing) (status : ℕ) (history : List (ℕ × Event)) (last : Durable)
    (tells : told) where
  abbrev Left : Sides → Type 0
  Left = IsLeftWithin fair source history (bytes_of old) (images old)

  module _ (p : IsSession told bytes_of images clock moments faults fair sure workers old new source sink status history last) where
    -- the event that met the store's first fault is the one in hand
    in_hand : (k : KeptFault) → p.store.kept ≡ Some k → EndsBy fair workers status p.store.kept source sink p.xs p.store.core → MayComeNext fair p.store.base source history p.store.core k.act.1
    in_hand k met (read_to_its_end is none how) = absurd (none_is_none p.store.kept k none met)
    in_hand k met (inside_an_edit is none how) = absurd (none_is_none p.store.kept k none met)
    in_hand k met (at_read_fault is none how) = absurd (none_is_none p.store.kept k none met)
    in_hand k met (at_write_fault is none how) = absurd (none_is_none p.store.kept k none met)
    in_hand k met (with_full_input is none how) = absurd (none_is_none p.store.kept k none met)
    in_hand k met (at_store_fault j is status_is how) = record {
      xs = p.xs;
      events = p.plays.events;
      run = p.plays.run;
      reached = how.reached;
      next = subst (λ (f : KeptFault). IsFailedEvent fair 1 (λ user. how.reached.begun) p.store.core f.act.1) (one_fault p.store.kept j k is met) how.failed;
    }
    in_hand k met (without_memory is how) = record {
      xs = p.xs;
      events = p.plays.events;
      run = p.plays.run;
      reached = how.reached;
      next = subst (λ (f : Option KeptFault). IfSome (option_map (λ y. y.act.1) f) (IsFailedEvent fair 1 (λ user. how.reached.begun) p.store.core)) met how.failed;
    }

    whole : (c : Sides) → Recovers c p.store.core.durable → StandsAtFront p.store.base history c
    whole c stands = record { front = p.xs; behind = []; parts = p.plays.events ∙ sym (append-nil _); state = p.store.core; run = p.plays.run; stands = stands }

    after : (k : KeptFault) → p.store.kept ≡ Some k → (c : Sides) → IsBeforeOrAfter p.store.core k.act.1 c → StandsAtFront p.store.base history c ⊎ StandsAfterNext fair source history p.store.base c
    after k met c (inl stands) = inl (whole c stands)
    after k met c (inr entry) = inr (record { state = p.store.core; event = k.act.1; next = in_hand k met p.ends; stands = entry })

    at_last : (kept : Option KeptFault) → p.store.kept ≡ kept → (c : Sides) → IsImage p.store.core kept c → StandsAtFront p.store.base history c ⊎ StandsAfterNext fair source history p.store.base c
    at_last None is c image = inl (whole c image)
    at_last (Some k) is c image = after k is c (before_or_after p.store.core k.fault k.act.1 c image)

    within : (c : Sides) → StoodWithin (images old) p.store c → Left c
    within c (inl some) = inl some
    within c (inr (inl front)) = inr (p.store.base, p.opens.stood tells, inl (subst (λ h. StandsAtFront p.store.base h c) p.events front))
    within c (inr (inr image)) = inr (p.store.base, p.opens.stood tells, at_last p.store.kept refl c image)

  pub at_any_moment : Sessions told bytes_of images clock moments faults fair sure workers old new untouched source sink status history last → LeavesOnly clock moments old new Left
  at_any_moment (inl r) = weaken clock moments old new _ Left (r.refuses.any_moment tells) (λ c some. inl some)
  at_any_moment (inr p) = weaken clock moments old new _ Left (p.any_moment tells) (within p)
