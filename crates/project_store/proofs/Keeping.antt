-- What holds of a store holds after one more act.
use Rattle.std.proofs.Common.{◌≡◌, ◌∙◌, ⊎_elim, ◌⊎◌, inl, inr, sym, ap, subst, refl, ℕ, ◌+◌, ◌≤◌, Bool, true, false, Option, Some, None, List, [], ◌∷◌, ◌++◌, length, length-append, arith}
use Rattle.std.proofs.lemmas.List.{map-append}
use Rattle.outside.specs.Cause.{Rose}
use Rattle.outside.specs.Disk.{Sides, LeavesOnly}
use Rattle.journal_core.specs.State.{JournalState}
use Rattle.proof_entries.specs.declared.Entry.{Entry}
use Rattle.core_steps.specs.declared.durable.Durable.{Durable}
use Rattle.core_steps.specs.declared.events.Event.{Event}
use Rattle.core_steps.specs.declared.events.Reply.{Reply}
use Rattle.core_steps.specs.Laws.{IsOrderly}
use Rattle.core_steps.specs.Run.{Exchange, Runs, IsStepOf}
use Rattle.core_steps.specs.State.{State, opened}
use Rattle.core_steps.specs.Step.{Does}
use Rattle.event_weights.specs.Weights.{weight_of}
use Rattle.store_log.specs.History.{exchanges_of}
use Rattle.store_log.specs.declared.fault.StoreFault.{StoreFault}
use Rattle.store_log.specs.declared.fault.StoreFault.TheVariants.{Failed, SessionFull, OutOfMemory, JournalFull, DiskFault}
use Rattle.project_store.specs.declared.fault.KeptFault.{KeptFault}
use Rattle.project_store.specs.Records.{IsSmall, Recovers, RecoversAt}
use Rattle.project_store.specs.Private.{IsDone, IsUndone, IsActed, IsStopped}
use Rattle.project_store.specs.Store.{met, StoreState, IsSoundStore, IsBeforeOrAfter, IsImage, IsTooHeavy, HasNoRoomFor, HasCauseOf, weight}
use Rattle.project_store.proofs.Preparing.{no_memory}

pub run_on : (s : State) (xs : List Exchange) (t : State) (x : Exchange) (u : State) → Runs s xs t → IsStepOf t x u → Runs s (xs ++ x ∷ []) u
run_on s [] t x u run step = (u, subst (λ y. IsStepOf y x u) run step, refl)
run_on s (y ∷ ys) t x u run step = (run.0, run.1, run_on run.0 ys t x u run.2 step)

pub weight_on : (acts : List (ℕ × Event)) (chair : ℕ) (event : Event) → weight (acts ++ (chair, event) ∷ []) ≡ weight acts + weight_of event
weight_on [] chair event = omega arith
weight_on (act ∷ acts) chair event = omega (arith, weight_on acts chair event)

is_false : (b : Bool) → (b ≡ true → ⊥) → b ≡ false
is_false true never = absurd (never refl)
is_false false never = refl

module _ {D : Type 0} (told : Type 0) (bytes_of : D → Sides) (images : D → Sides → Type 0) (clock : D → ℕ) (moments : D → ℕ → Sides → Type 0) (faults : D → ℕ) (base : Durable) (count : ℕ) where
  abbrev store : JournalState D → State → List (ℕ × Event) → Option KeptFault → StoreState D
  store journal core history kept = record { journal = journal; core = core; history = history; kept = kept; base = base; count = count }

  abbrev pub Sound : JournalState D → State → List (ℕ × Event) → Option KeptFault → Type 0
  Sound journal core history kept = IsSoundStore told bytes_of images faults (store journal core history kept)

  module _ (journal : JournalState D) (core : State) (history : List (ℕ × Event)) (s : Sound journal core history None) where
    -- without a fault the journal is sound
    pub not_failed : journal.failed ≡ false
    not_failed = is_false journal.failed (λ e. s.failed e)

    -- after an act that is done
    pub done : (now : JournalState D) (chair : ℕ) (event : Event) (reply : Reply) (entry : Option Entry) (new : State) (acts : List (ℕ × Event)) → Does core event reply entry new → acts ≡ history ++ (chair, event) ∷ []
        → now.failed ≡ false → IsSmall new.durable → IsOrderly new → new.next ≤ core.next + 1 → (told → RecoversAt (bytes_of now.disk) now.side now.generation new.durable)
        → (told → (c : Sides) → images now.disk c → Recovers c new.durable) → faults journal.disk ≤ faults now.disk → weight history + weight_of event ≤ 67108864 → Sound now new acts None
    done now chair event reply entry new acts does is sound small orderly next reads stops later light =
        let x : ℕ × Exchange = (chair, record { event = event; reply = reply; entry = entry }) in
        record {
          exchanges = s.exchanges ++ x ∷ [];
          run = record {
            events = is ∙ ap (λ l. l ++ (chair, event) ∷ []) s.run.events ∙ sym (map-append (λ (y : ℕ × Exchange). (y.0, y.1.event)) s.exchanges (x ∷ []));
            run = subst (λ l. Runs (opened base) l new) (sym (map-append (λ (y : ℕ × Exchange). y.1) s.exchanges (x ∷ []))) (run_on (opened base) (exchanges_of s.exchanges) core x.1 new s.run.run does);
          };
          small = small;
          orderly = orderly;
          tickets = omega (arith, next, s.tickets, ap length is, length-append history ((chair, event) ∷ []));
          light = omega (arith, light, ap weight is, weight_on history chair event);
          failed = λ e. let both : false ≡ true = sym sound ∙ e in cc;
          sound = λ never. absurd never;
          reads = λ t ok. reads t;
          stops = λ t c here. stops t c here;
          counted = omega (arith, later, s.counted);
          cause = tt;
        }

    -- after a fault of the disk
    stopped : (now : JournalState D) (chair : ℕ) (event : Event) → now.failed ≡ true → (told → LeavesOnly clock moments journal.disk now.disk (IsBeforeOrAfter core event)) → Rose (faults journal.disk) (faults now.disk)
        → faults journal.disk ≤ faults now.disk → (told → (c : Sides) → images now.disk c → moments now.disk (clock journal.disk) c) → Sound now core history (Some (met DiskFault chair event))
    stopped now chair event failed leaves rose later at_once = record {
      exchanges = s.exchanges;
      run = record { events = s.run.events; run = s.run.run };
      small = s.small;
      orderly = s.orderly;
      tickets = s.tickets;
      light = s.light;
      failed = λ e. refl;
      sound = λ e. failed;
      reads = λ t ok. absurd (let both : false ≡ true = sym ok ∙ failed in cc);
      stops = λ t c here. (leaves t).each c (at_once t c here);
      counted = omega (arith, later, s.counted);
      cause = omega (arith, rose, s.counted);
    }

    -- after another fault, with the disk as it was
    kept_still : (kept : KeptFault) → (kept.fault ≡ DiskFault → ⊥) → ((c : Sides) → Recovers c core.durable → IsImage core (Some kept) c)
        → HasCauseOf faults (store journal core history (Some kept)) kept.fault kept.act.1 → Sound journal core history (Some kept)
    kept_still kept other same cause = record {
      exchanges = s.exchanges;
      run = record { events = s.run.events; run = s.run.run };
      small = s.small;
      orderly = s.orderly;
      tickets = s.tickets;
      light = s.light;
      failed = λ e. absurd (s.failed e);
      sound = λ e. absurd (other e);
      reads = s.reads;
      stops = λ t c here. same c (s.stops t c here);
      counted = s.counted;
      cause = cause;
    }

    pub refused : (fault : StoreFault) (chair : ℕ) (event : Event) → (fault ≡ DiskFault → ⊥) → (fault ≡ Failed → ⊥) → (fault ≡ SessionFull → IsTooHeavy history event) → (fault ≡ JournalFull → HasNoRoomFor journal core event) → Sound journal core history (Some (met fault chair event))
    refused Failed chair event other first heavy full = absurd (first refl)
    refused SessionFull chair event other first heavy full = kept_still (met SessionFull chair event) other (λ c here. here) (heavy refl)
    refused OutOfMemory chair event other first heavy full = kept_still (met OutOfMemory chair event) other (λ c here. here) tt
    refused JournalFull chair event other first heavy full = kept_still (met JournalFull chair event) other (λ c here. here) (full refl)
    refused DiskFault chair event other first heavy full = absurd (other refl)

    pub after_fault : (now : JournalState D) (new : State) (fault : StoreFault) (chair : ℕ) (event : Event) → new ≡ core
        → ((now ≡ journal) × (fault ≡ DiskFault → ⊥)) ⊎ ((fault ≡ DiskFault) × (now.failed ≡ true)) → (fault ≡ Failed → ⊥) → (fault ≡ SessionFull → ⊥) → (fault ≡ JournalFull → HasNoRoomFor journal core event)
        → (told → LeavesOnly clock moments journal.disk now.disk (IsBeforeOrAfter core event)) → (fault ≡ DiskFault → Rose (faults journal.disk) (faults now.disk)) → faults journal.disk ≤ faults now.disk
        → (told → (c : Sides) → images now.disk c → moments now.disk (clock journal.disk) c) → Sound now new history (Some (met fault chair event))
    after_fault now new fault chair event core_is which first heavy full leaves rose later at_once =
        subst (λ x. Sound now x history (Some (met fault chair event))) (sym core_is)
        (⊎_elim
        (λ w. subst (λ j. Sound j core history (Some (met fault chair event))) (sym w.0) (refused fault chair event w.1 first (λ e. absurd (heavy e)) full))
        (λ w. subst (λ f. Sound now core history (Some (met f chair event))) (sym w.0) (stopped now chair event w.1 leaves (rose w.0) later at_once))
        which)

    -- after an act that is done, by what it did
    pub done_by : (now : JournalState D) (chair : ℕ) (event : Event) (reply : Reply) (new : State) (acts : List (ℕ × Event)) → IsDone told bytes_of images journal now core new event reply → acts ≡ history ++ (chair, event) ∷ []
        → faults journal.disk ≤ faults now.disk → weight history + weight_of event ≤ 67108864 → Sound now new acts None
    done_by now chair event reply new acts d is later light = done now chair event reply d.entry new acts d.does is d.sound d.small d.orderly d.next d.reads d.stops later light

    -- after an act that met a fault, by what it did
    pub undone_by : (now : JournalState D) (chair : ℕ) (event : Event) (new : State) (fault : StoreFault) → IsUndone faults journal now core new event fault
        → (told → LeavesOnly clock moments journal.disk now.disk (IsBeforeOrAfter core event)) → faults journal.disk ≤ faults now.disk
        → (told → (c : Sides) → images now.disk c → moments now.disk (clock journal.disk) c) → Sound now new history (Some (met fault chair event))
    undone_by now chair event new fault u leaves later at_once = after_fault now new fault chair event u.same u.stays u.first u.light u.full leaves u.rose later at_once

  module _ (journal : JournalState D) (core : State) (history : List (ℕ × Event)) (kept : Option KeptFault) where
    pub acted : (now : JournalState D) (chair : ℕ) (event : Event) (reply : Reply) (new : State) (acts : List (ℕ × Event)) → IsDone told bytes_of images journal now core new event reply → acts ≡ history ++ (chair, event) ∷ []
        → weight history + weight_of event ≤ 67108864 → kept ≡ None → IsActed told images (store journal core history kept) (store now new acts kept) chair event reply
    acted now chair event reply new acts d is light none = record {
      step = record { entry = d.entry; does = d.does; idle = d.idle };
      noted = is;
      sound = none;
      stops = d.stops;
      light = λ heavy. omega (arith, heavy, light);
      room = d.room;
    }

    pub has_stopped : (now : JournalState D) (chair : ℕ) (event : Event) (new : State) (acts : List (ℕ × Event)) (keeps : Option KeptFault) (fault : StoreFault) → IsUndone faults journal now core new event fault → acts ≡ history
        → weight history + weight_of event ≤ 67108864 → keeps ≡ Some (met fault chair event) → IsStopped faults (store journal core history kept) (store now new acts keeps) chair event fault
    has_stopped now chair event new acts keeps fault u is light keeps_is = record {
      core = u.same;
      history = is;
      kept = keeps_is;
      first = u.first;
      heavy = λ e. absurd (u.light e);
      light = λ heavy. absurd (omega (arith, heavy, light));
      full = u.full;
      room = u.room;
      rose = u.rose;
      untouched = ⊎_elim (λ w. inr w.0) (λ w. inl w.0) u.stays;
    }

    pub is_too_heavy : (chair : ℕ) (event : Event) (keeps : Option KeptFault) → IsTooHeavy history event → keeps ≡ Some (met SessionFull chair event)
        → IsStopped faults (store journal core history kept) (store journal core history keeps) chair event SessionFull
    is_too_heavy chair event keeps heavy keeps_is = record {
      core = refl;
      history = refl;
      kept = keeps_is;
      first = λ e. cc;
      heavy = λ e. heavy;
      light = λ e. refl;
      full = λ e. cc;
      room = λ none e. cc;
      rose = λ e. cc;
      untouched = inr refl;
    }

    pub has_no_memory : (chair : ℕ) (event : Event) (acts : List (ℕ × Event)) (keeps : Option KeptFault) → acts ≡ history → weight history + weight_of event ≤ 67108864 → keeps ≡ Some (met OutOfMemory chair event)
        → IsStopped faults (store journal core history kept) (store journal core acts keeps) chair event OutOfMemory
    has_no_memory chair event acts keeps is light keeps_is = has_stopped journal chair event core acts keeps OutOfMemory (no_memory faults journal core core event refl) is light keeps_is
